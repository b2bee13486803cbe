use Rattle.objects.proofs.Deciding.{stands_awaken, stands_begins, stands_deciding, stands_declining, stands_staying, stands_unseen}
use Rattle.objects.proofs.Free.{free, still_free}
use Rattle.objects.proofs.laws.decides.Goals as goal

pub returns : goal.returns
returns c = record {
  free = λ v s i h none. free v s h i none;
  still_free = still_free;
  begins = λ v s i q. stands_begins v s i q;
  decides = λ v s i o a h. stands_deciding v s i o h a;
  declines = λ v s i o h. stands_declining v s i o h;
  stays = stands_staying;
  awakened = stands_awaken;
  unseen = stands_unseen;
}
