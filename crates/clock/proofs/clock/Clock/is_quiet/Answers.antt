use Rattle.std.proofs.Common.{◌≡◌, ℕ, List, [], ◌∷◌, ◌++◌, ap, ◌∙◌, refl}
use Rattle.clock.specs.Timeline.{Timeline, count_from}
use Rattle.clock.proofs.clock.Clock.is_quiet.Goals as goal

none_left : (base : ℕ) (xs ys : List (ℕ × ℕ)) → count_from base xs ++ ys ≡ [] → xs ≡ []
none_left base [] ys e = refl
none_left base (x ∷ xs) ys e = absurd (cc)

pub returns-else-is_empty : goal.returns-else-is_empty
returns-else-is_empty c = record {
  quiet = (
    λ t. absurd (cc),
    λ e. c.is_empty.ensures.empty.1 (none_left _ _ _ (ap (λ (t : Timeline). t.delayed_list) c.self.view_is ∙ e)),
  );
}
