-- Which plans come to which nodes, as nodes are joined and put.
use Rattle.std.proofs.Common.{◌≡◌, ◌<◌, ◌+◌, ℕ, zero, suc, Bool, true, false, List, [], ◌∷◌, ◌++◌, length, get_or, set, refl, ap}
use Rattle.std.proofs.Common.{sym, ◌∙◌, subst, arith, append-nil, length-append}
use Rattle.std.specs.Prelude.{Contains, if◌then◌else◌}
use Rattle.std.specs.List.{AllByRecursion, AllZip, flat_map}
use Rattle.std.proofs.lemmas.List.{append_assoc}
use Rattle.std.proofs.lemmas.List.Concat.{flat_map-append}
use Rattle.std.proofs.lemmas.List.Elements.{Contains-append_left, Contains-append_right}
use Rattle.model.specs.declared.plan.Injection.{Injection}
use Rattle.model.specs.Application.{Application, Limits}
use Rattle.model.specs.State.{State}
use Rattle.model.specs.Placements.{is_less}
use Rattle.model.proofs.Among.{all_append, all_weaker}
use Rattle.machine.specs.declared.machine.Machine.{Machine}
use Rattle.machine.specs.StandsFor.{Stands}
use Rattle.machine.specs.Can.{IsUnderWay}
use Rattle.kernel.proofs.Alike.{way_alike}
use Rattle.explorer.specs.declared.layer.Node.{Node}
use Rattle.explorer.specs.Layers.{AreAt, AreOf, Carries}
use Rattle.explorer.specs.Nodes.{IsAlike, IsJoined, IsPut}
use Rattle.explorer.specs.Reordered.{IsReordered}
use Rattle.explorer.specs.Reordered.IsReordered.{Then}
use Rattle.explorer.proofs.Ordering.{not_less, not_less_on}
use Rattle.explorer.proofs.Reorderings.{before_all, behind_all, if_same, turned_round}

abbrev Plans : Type 0
Plans = List (List Injection)

abbrev pub together : List Plans → Plans
together groups = flat_map (λ group. group) groups

pub carries_reordered : (app : Application) (limits : Limits) (n : ℕ) (nodes : List Node) (plans others : Plans)
    → IsReordered others plans → Carries app limits n nodes plans → Carries app limits n nodes others
carries_reordered app limits n nodes plans others h c = record { groups = c.groups; each = c.each; all = Then h c.all }

pub carries_same : (app : Application) (limits : Limits) (n : ℕ) (nodes : List Node) (plans others : Plans)
    → others ≡ plans → Carries app limits n nodes plans → Carries app limits n nodes others
carries_same app limits n nodes plans others e c = carries_reordered app limits n nodes plans others (if_same others plans e) c

-- ---- plans of two kernels that are alike

module _ (app : Application) (limits : Limits) (n : ℕ) where
  -- the lesser of two is less than no other
  lesser : (ps qs : Plans) (a b : List Injection) → AllByRecursion (λ plan. is_less plan a ≡ false) ps
      → AllByRecursion (λ plan. is_less plan b ≡ false) qs → Contains ps a → Contains qs b → (test : Bool) → is_less b a ≡ test
      → Contains (ps ++ qs) (if test then b else a) × AllByRecursion (λ plan. is_less plan (if test then b else a) ≡ false)
      (ps ++ qs)
  lesser ps qs a b of_a of_b in_a in_b true h = (
    Contains-append_right ps qs b in_b,
    all_append (λ plan. is_less plan b ≡ false) ps qs
        (all_weaker (λ plan. is_less plan a ≡ false) (λ plan. is_less plan b ≡ false)
        (λ plan isnt. not_less plan b a isnt h) ps of_a) of_b,
  )
  lesser ps qs a b of_a of_b in_a in_b false h = (
    Contains-append_left ps qs a in_a,
    all_append (λ plan. is_less plan a ≡ false) ps qs of_a
        (all_weaker (λ plan. is_less plan b ≡ false) (λ plan. is_less plan a ≡ false)
        (λ plan isnt. not_less_on plan b a isnt h) qs of_b),
  )

  of_either : (b a : List Injection) (count : ℕ) (test : Bool) → length a ≡ count
      → length b ≡ count → length (if test then b else a) ≡ count
  of_either b a count true h k = k
  of_either b a count false h k = h

  pub join_both : (k j : Machine) (c d : ℕ) (a b : List Injection) (ps qs : Plans) → AreAt app limits n j c a ps
      → AreAt app limits n k d b qs → ((s : State) → Stands k s → Stands j s) → length a ≡ length b
      → AreAt app limits n j (c + d) (if is_less b a then b else a) (ps ++ qs)
  join_both k j c d a b ps qs h g alike long =
      let least = lesser ps qs a b h.none_less g.none_less h.among g.among (is_less b a) refl in
      let either : length (if is_less b a then b else a) ≡ length a = of_either b a (length a) (is_less b a) refl (sym long) in
      record {
        way =
            all_append (λ plan. IsUnderWay app plan limits j) ps qs h.way
            (all_weaker (λ plan. IsUnderWay app plan limits k) (λ plan. IsUnderWay app plan limits j)
            (λ plan way. way_alike app limits plan k j (g.here ∙ sym h.here) alike way) qs g.way);
        below = all_append (λ plan. AllByRecursion (λ (i : Injection). i.step < n) plan) ps qs h.below g.below;
        here = h.here;
        number = (let one = h.number in let other = g.number in omega (arith, length-append ps qs));
        among = least.0;
        none_less = least.1;
        long =
            all_append (λ plan. length plan ≡ length (if is_less b a then b else a)) ps qs
            (all_weaker (λ plan. length plan ≡ length a) (λ plan. length plan ≡ length (if is_less b a then b else a))
            (λ plan e. e ∙ sym either) ps h.long)
            (all_weaker (λ plan. length plan ≡ length b) (λ plan. length plan ≡ length (if is_less b a then b else a))
            (λ plan e. e ∙ sym long ∙ sym either) qs g.long);
      }

  -- ---- a node more, and a node with more

  zip_push : (nodes : List Node) (groups : List Plans) (node : Node) (more : Plans) → AllZip (AreOf app limits n) nodes groups
      → AreOf app limits n node more → AllZip (AreOf app limits n) (nodes ++ node ∷ []) (groups ++ more ∷ [])
  zip_push [] [] node more each of = (of, tt)
  zip_push [] (g ∷ groups) node more each of = absurd each
  zip_push (m ∷ nodes) [] node more each of = absurd each
  zip_push (m ∷ nodes) (g ∷ groups) node more each of = (each.0, zip_push nodes groups node more each.1 of)

  pub put_gains : (old new : List Node) (k : Machine) (count : ℕ) (least : List Injection) (plans more : Plans)
      → IsPut old new k count least → Carries app limits n old plans → AreAt app limits n k count least more
      → Carries app limits n new (plans ++ more)
  put_gains old new k count least plans more put c h =
      let node = put.node in
      let of : AreOf app limits n node more =
      subst (λ (l : List Injection). AreAt app limits n node.kernel.value node.count l more) (sym put.same_least)
      (subst (λ (m : ℕ). AreAt app limits n node.kernel.value m least more) (sym put.as_many)
      (subst (λ (j : Machine). AreAt app limits n j count least more) (sym put.kernel) h)) in
      let last : together (c.groups ++ more ∷ []) ≡ together c.groups ++ more =
      flat_map-append (λ group. group) c.groups (more ∷ []) ∙ ap (λ (ps : Plans). together c.groups ++ ps) (append-nil more) in
      record {
        groups = c.groups ++ more ∷ [];
        each =
            subst (λ (nodes : List Node). AllZip (AreOf app limits n) nodes (c.groups ++ more ∷ [])) (sym put.new_is)
            (zip_push old c.groups node more c.each of);
        all =
            Then (before_all more plans (together c.groups) c.all)
            (if_same (together c.groups ++ more) (together (c.groups ++ more ∷ [])) (sym last));
      }

  -- the groups, of which that of this number has more
  record Joins (nodes : List Node) (number : ℕ) (joined : Node) (groups : List Plans) (more : Plans) : Type 0 where
    grown : List Plans
    each : AllZip (AreOf app limits n) (set nodes number joined) grown
    all : IsReordered (together groups ++ more) (together grown)

  join_at : (nodes : List Node) (groups : List Plans) (number : ℕ) (node joined : Node) (more : Plans)
      → AllZip (AreOf app limits n) nodes groups → number < length nodes → get_or nodes number node ≡ node
      → ((ps : Plans) → AreOf app limits n node ps → AreOf app limits n joined (ps ++ more))
      → Joins nodes number joined groups more
  join_at [] [] number node joined more each l is grows = absurd (omega (arith, l))
  join_at [] (g ∷ gs) number node joined more each l is grows = absurd each
  join_at (m ∷ nodes) [] number node joined more each l is grows = absurd each
  join_at (m ∷ nodes) (g ∷ gs) zero node joined more each l is grows = record {
    grown = (g ++ more) ∷ gs;
    each = (grows g (subst (λ (x : Node). AreOf app limits n x g) is each.0), each.1);
    all =
        Then (if_same ((g ++ together gs) ++ more) (g ++ (together gs ++ more)) (append_assoc g (together gs) more))
        (Then (behind_all g (together gs ++ more) (more ++ together gs) (turned_round (together gs) more))
        (if_same (g ++ (more ++ together gs)) ((g ++ more) ++ together gs) (sym (append_assoc g more (together gs)))));
  }
  join_at (m ∷ nodes) (g ∷ gs) (suc number) node joined more each l is grows =
      let rest = join_at nodes gs number node joined more each.1 (omega (arith, l)) is grows in
      record {
        grown = g ∷ rest.grown;
        each = (each.0, rest.each);
        all =
            Then (if_same ((g ++ together gs) ++ more) (g ++ (together gs ++ more)) (append_assoc g (together gs) more))
            (behind_all g (together gs ++ more) (together rest.grown) rest.all);
      }

  pub join_gains : (old new : List Node) (k : Machine) (number count : ℕ) (least : List Injection) (plans more : Plans)
      → IsAlike old k (length least) number → IsJoined old new number count least
      → Carries app limits n old plans → AreAt app limits n k count least more → Carries app limits n new (plans ++ more)
  join_gains old new k number count least plans more alike join c h =
      let node = alike.node in
      let one : join.node ≡ node =
      sym join.is ∙ get_same old number join.node node alike.within ∙ alike.is in
      let grows = λ (ps : Plans) (of : AreOf app limits n node ps). (
      let both : AreAt app limits n node.kernel.value (node.count + count)
      (if is_less least node.least then least else node.least) (ps ++ more) =
      join_both k node.kernel.value node.count count node.least least ps more of h alike.stands alike.long in
      let kernel : node.kernel.value ≡ join.joined.kernel.value = ap (λ (m : Node). m.kernel.value) (sym one) ∙ sym join.kernel in
      let number : node.count + count ≡ join.joined.count = ap (λ (m : Node). m.count + count) (sym one) ∙ sym join.more in
      let lesser : (if is_less least node.least then least else node.least) ≡ join.joined.least =
      ap (λ (m : Node). if is_less least m.least then least else m.least) (sym one) ∙ sym join.lesser in
      subst (λ (l : List Injection). AreAt app limits n join.joined.kernel.value join.joined.count l (ps ++ more)) lesser
      (subst (λ (m : ℕ). AreAt app limits n join.joined.kernel.value m (if is_less least node.least then least else node.least)
      (ps ++ more)) number
      (subst (λ (j : Machine). AreAt app limits n j (node.count + count) (if is_less least node.least then least else node.least)
      (ps ++ more)) kernel both))) in
      let joins = join_at old c.groups number node join.joined more c.each alike.within alike.is grows in
      record {
        groups = joins.grown;
        each = subst (λ (nodes : List Node). AllZip (AreOf app limits n) nodes joins.grown) (sym join.new_is) joins.each;
        all = Then (before_all more plans (together c.groups) c.all) joins.all;
      } where
        get_same : (xs : List Node) (i : ℕ) (x y : Node) → i < length xs → get_or xs i x ≡ get_or xs i y
        get_same [] i x y l = absurd (omega (arith, l))
        get_same (z ∷ xs) zero x y l = refl
        get_same (z ∷ xs) (suc i) x y l = get_same xs i x y (omega (arith, l))
