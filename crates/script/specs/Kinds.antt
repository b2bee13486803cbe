-- That an application may have an object is a fact, so it may be kept beside the object.
use Rattle.std.specs.Coded.{×_prop, Unit-prop, le_prop}
use mathlib.Core.HLevel.{×₃_prop}
use Rattle.model.specs.declared.object.ObjectKind.{ObjectKind}
use Rattle.model.specs.declared.object.ObjectKind.TheVariants.{Queue, Semaphore, Mutex}
use Rattle.model.specs.Scripts.{IsObjectKind}

pub IsObjectKind-prop : (kind : ObjectKind) → IsProp (IsObjectKind kind)
IsObjectKind-prop (Queue size) = ×_prop le_prop le_prop
IsObjectKind-prop (Semaphore max_count initial_count) = ×₃_prop le_prop le_prop le_prop
IsObjectKind-prop Mutex = Unit-prop
