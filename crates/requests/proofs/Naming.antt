-- Lists of names, as they are read.
use Rattle.std.proofs.Common.{◌≡◌, ◌≢◌, ◌+◌, ◌∷◌, ◌||◌, ◌&&◌, [], ℕ, suc, zero, Bool, true, false, List, ap, arith, refl}
use Rattle.std.specs.Str.{bytes_eq}
use Rattle.grammar.specs.Names.{is_name}
use Rattle.requests.specs.Names.{are_names, is_among, name_at}

pub among_first : (name other : List ℕ) (others : List (List ℕ)) → bytes_eq name other ≡ true
    → is_among name (other ∷ others) ≡ true
among_first name other others found = rw found refl

pub among_later : (name other : List ℕ) (others : List (List ℕ)) → bytes_eq name other ≡ false
    → is_among name (other ∷ others) ≡ is_among name others
among_later name other others isnt = rw isnt refl

or_false : (b : Bool) → (b || false) ≡ b
or_false true = refl
or_false false = refl

pub among_last : (name other : List ℕ) → is_among name (other ∷ []) ≡ bytes_eq name other
among_last name other = or_false (bytes_eq name other)

-- ---- whether all are names

pub no_name : (name : List ℕ) (names : List (List ℕ)) → is_name name ≡ false → are_names (name ∷ names) ≡ false
no_name name names isnt = rw isnt refl

and_false : (b : Bool) → (b && false) ≡ false
and_false true = refl
and_false false = refl

pub there_twice : (name : List ℕ) (names : List (List ℕ)) → is_among name names ≡ true → are_names (name ∷ names) ≡ false
there_twice name names twice = rw twice (and_false (is_name name))

pub one_name : (name : List ℕ) (names : List (List ℕ)) → is_name name ≡ true → is_among name names ≡ false
    → are_names (name ∷ names) ≡ are_names names
one_name name names is once = rw (is, once) refl

and_true : (b : Bool) → (b && true) ≡ b
and_true true = refl
and_true false = refl

pub name_alone : (name : List ℕ) → are_names (name ∷ []) ≡ is_name name
name_alone name = and_true (is_name name)

-- ---- the name in a place

pub first_name : (place : ℕ) (name : List ℕ) (names : List (List ℕ)) → place ≡ 0 → name_at place (name ∷ names) ≡ name
first_name zero name names e = refl
first_name (suc place) name names e = absurd (omega (arith, e))

pub later_name : (place before : ℕ) (name : List ℕ) (names : List (List ℕ)) → before + 1 ≡ place
    → name_at place (name ∷ names) ≡ name_at before names
later_name zero before name names e = absurd (omega (arith, e))
later_name (suc place) before name names e =
    ap (λ (n : ℕ). name_at n names) (let same : place ≡ before = omega (arith, e) in same)

pub last_name : (place : ℕ) (name : List ℕ) → place ≡ 0 → name_at place (name ∷ []) ≡ name
last_name place name e = first_name place name [] e

pub past_name : (place : ℕ) (name : List ℕ) → place ≢ 0 → name_at place (name ∷ []) ≡ []
past_name zero name some = absurd (some refl)
past_name (suc place) name some = refl
