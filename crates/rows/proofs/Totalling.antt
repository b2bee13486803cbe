-- The rows of places, one after the other.
use Rattle.std.specs.Prelude.{slice_get, Some, Option}
use Rattle.std.specs.List.{AllByRecursion, flat_map}
use Rattle.std.proofs.Common.{◌≡◌, ◌<◌, ◌≤◌, ◌+◌, ℕ, zero, suc, List, [], ◌∷◌, ◌++◌, length, take, drop, slice_index_or, sym}
use Rattle.std.proofs.Common.{subst, ap, ◌∙◌, append_assoc, append-nil, add-one, arith}
use Rattle.std.proofs.lemmas.List.{length-take, length-drop, length-map}
use Rattle.model.specs.Run.{Run}
use Rattle.rows.specs.declared.rows.Part.{Part}
use Rattle.rows.specs.declared.rows.Place.{Place}
use Rattle.rows.specs.Report.{row_of, store_of, rows_in, rows_in_some, rows_at, AreKept, IsPlace}

-- ---- the rows of several places

flat_suc : {X A : Type 0} (f : X → List A) (xs : List X) (index : ℕ) (x : X) → index < length xs
    → x ≡ slice_index_or xs index x → flat_map f (take (suc index) xs) ≡ flat_map f (take index xs) ++ f x
flat_suc f [] index x l is = absurd (omega arith)
flat_suc f (y ∷ xs) zero x l is = append-nil (f y) ∙ ap f (sym is)
flat_suc f (y ∷ xs) (suc index) x l is =
    ap (λ zs. f y ++ zs) (flat_suc f xs index x (omega arith) is) ∙ sym (append_assoc (f y) (flat_map f (take index xs)) (f x))

pub flat_more : {X A : Type 0} (f : X → List A) (xs : List X) (index : ℕ) (x : X) → index < length xs
    → x ≡ slice_index_or xs index x → flat_map f (take (index + 1) xs) ≡ flat_map f (take index xs) ++ f x
flat_more f xs index x l is = ap (λ n. flat_map f (take n xs)) (add-one index) ∙ flat_suc f xs index x l is

-- a place's rows are those of its part
pub rows_there : (base : Run) (parts : List Part) (place : Place) (part : Part)
    → slice_get parts place.part ≡ Some part → rows_at base parts place ≡ rows_in base part place.first place.count
rows_there base parts place part is = ap (λ (o : Option Part). rows_in_some base o place.first place.count) is

pub got : {X : Type 0} (xs : List X) (i : ℕ) (x : X) → i < length xs → x ≡ slice_index_or xs i x → slice_get xs i ≡ Some x
got [] i x l is = absurd (omega arith)
got (y ∷ xs) zero x l is = ap Some (sym is)
got (y ∷ xs) (suc i) x l is = got xs i x (omega arith) is

pub within_list : {X : Type 0} (xs : List X) (i : ℕ) (x : X) → slice_get xs i ≡ Some x → i < length xs
within_list [] i x e = absurd (cc)
within_list (y ∷ xs) zero x e = omega arith
within_list (y ∷ xs) (suc i) x e = let l = within_list xs i x e in omega arith

pub same_part : (a b : Part) → Some a ≡ Some b → a ≡ b
same_part a b e = cc e

-- there are as many rows in the part of a place
pub place_within : (parts : List Part) (place : Place) (is : IsPlace parts place) (part : Part)
    → slice_get parts place.part ≡ Some part → place.first + place.count ≤ length part.kept
place_within parts place is part there =
    subst (λ (p : Part). place.first + place.count ≤ length p.kept) (same_part is.part part (sym is.at_part ∙ there)) is.within

-- a part of kept rows
pub parts_kept : (base : Run) (parts : List Part) (i : ℕ) (part : Part)
    → slice_get parts i ≡ Some part → AllByRecursion (AreKept base) parts → AreKept base part
parts_kept base [] i part e all = absurd (cc e)
parts_kept base (p ∷ parts) zero part e all = subst (AreKept base) (same_part p part e) all.0
parts_kept base (p ∷ parts) (suc i) part e all = parts_kept base parts i part e all.1

pub length_at : (base : Run) (parts : List Part) (place : Place)
    → IsPlace parts place → length (rows_at base parts place) ≡ place.count
length_at base parts place is =
    let items = is.part.kept in
    let within = is.within in
    let there = ap length (rows_there base parts place is.part is.at_part) in
    let same = length-map (take place.count (drop place.first items)) (row_of base (store_of is.part)) in
    let cut = length-take place.count (drop place.first items) in
    let rest = length-drop place.first items in
    omega arith
