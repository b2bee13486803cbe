-- The objects of the definitions, put together of what is kept of queues, semaphores and mutexes.
use Rattle.std.specs.Prelude.{ℕ, Option, Some, List, length, filter}
use Rattle.model.specs.State.{Object}
use Rattle.model.specs.Switching.{is_same}
use Rattle.objects.specs.Places.{object_places}
use Rattle.objects.specs.Items.{object_in}
use Rattle.objects.specs.Rings.{listed}
use Rattle.objects.specs.Semaphores.{Counts, count_in, max_count_in}
use Rattle.objects.specs.Mutexes.{holder_in}

-- the object of this number: a queue has its room and its items, a semaphore its counts, a mutex its holder
abbrev pub object_of_all : List Object → Counts → List (Option ℕ) → ℕ → Object
object_of_all queues semaphores mutexes object = record {
  size = (object_in queues object).size;
  items = (object_in queues object).items;
  max_count = max_count_in semaphores object;
  count = count_in semaphores object;
  holder = holder_in mutexes object;
}

-- all of them, by number
unfoldable pub objects_of_all : List Object → Counts → List (Option ℕ) → List Object
objects_of_all queues semaphores mutexes = listed (object_of_all queues semaphores mutexes) object_places

-- how many of these objects a task holds
abbrev pub held_of : List Object → ℕ → ℕ
held_of objects task = length (filter (λ (o : Object). is_same o.holder (Some task)) objects)
