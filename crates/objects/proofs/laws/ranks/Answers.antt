use Rattle.model.specs.Mutexes.{after_timeout, disinherit, inherit}
use Rattle.objects.proofs.Ranking.{at_locked-ranked, at_locked_kept, kept-after_timeout, kept-disinherit, kept-inherit, stands_kept}
use Rattle.objects.proofs.Ranking.{stands_ranked}
use Rattle.objects.proofs.laws.ranks.Goals as goal

pub returns : goal.returns
returns c = record {
  ranked = stands_ranked;
  ranked_awake = at_locked-ranked;
  inherited = λ v d s i o. stands_kept v d s (inherit i o s) (kept-inherit s i o);
  inherited_awake = λ d s i o. at_locked_kept d s (inherit i o s) (kept-inherit s i o);
  timed_out = λ v d s i o. stands_kept v d s (after_timeout i o s) (kept-after_timeout s i o);
  timed_out_awake = λ d s i o. at_locked_kept d s (after_timeout i o s) (kept-after_timeout s i o);
  disinherited = λ v d s i. stands_kept v d s (disinherit i s) (kept-disinherit s i);
  disinherited_awake = λ d s i. at_locked_kept d s (disinherit i s) (kept-disinherit s i);
}
