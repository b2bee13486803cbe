-- What several calls of a sink send together.
use Rattle.std.proofs.Common.{◌≡◌, ℕ, ◌≤◌, ◌<◌, ◌+◌, ◌-◌, List, [], ◌++◌, length, take, drop, get_or, Option, Result, Ok, Err, refl}
use Rattle.std.proofs.Common.{sym, ap, ◌∙◌, append_assoc, append-nil, arith, take-append-drop}
use Rattle.std.proofs.lemmas.Grind.{common_steps}
use Rattle.std.proofs.lemmas.Bool.{false≢true}
use Rattle.std.proofs.lemmas.List.{drop_all, drop_more}
use Rattle.std.proofs.KnownBytes.{Appends-trans, Appends-nil}
use Rattle.std.specs.Io.KnownBytes.{Appends}
use Rattle.std.specs.List.{flat_map}
use Rattle.std.specs.Result.{IsErr}
use Rattle.byte_io.specs.Bytes.{Sent, SentFront, Writes, Adds}

-- the sink took n more bytes
pub Sent-more : (a b c : Option (List ℕ)) (text rest : List ℕ) (n : ℕ)
    → Sent a b text rest → n ≤ length rest → Appends b c (take n rest) → Sent a c text (take (length rest - n) (drop n rest))
Sent-more a b c text rest n sent within more =
    let whole_rest : take (length rest - n) (drop n rest) ≡ drop n rest = grind (arith, common_steps) in
    record {
      front = sent.front ++ take n rest;
      whole =
          rw whole_rest (sent.whole ∙ ap (λ l. sent.front ++ l) (sym (take-append-drop n rest))
          ∙ sym (append_assoc sent.front (take n rest) (drop n rest)));
      appends = Appends-trans a b c sent.front (take n rest) sent.appends more;
    }

pub Sent_none : (a : Option (List ℕ)) (text : List ℕ) → Sent a a text text
Sent_none a text = record { front = []; whole = refl; appends = Appends-nil a }

pub Sent_all : (a b : Option (List ℕ)) (text : List ℕ) → Appends a b text → Sent a b text []
Sent_all a b text all = record { front = text; whole = sym (append-nil text); appends = all }

-- what is left of a text goes out in part
pub Sent_then : (a b c : Option (List ℕ)) (text rest kept : List ℕ) → Sent a b text rest → Sent b c rest kept → Sent a c text kept
Sent_then a b c text rest kept first second = record {
  front = first.front ++ second.front;
  whole = first.whole ∙ ap (λ l. first.front ++ l) second.whole ∙ sym (append_assoc first.front second.front kept);
  appends = Appends-trans a b c first.front second.front first.appends second.appends;
}

-- a longer text, of which the same went out
pub Sent_longer : (a b : Option (List ℕ)) (text rest more : List ℕ) → Sent a b text rest → Sent a b (text ++ more) (rest ++ more)
Sent_longer a b text rest more sent = record {
  front = sent.front;
  whole = ap (λ l. l ++ more) sent.whole ∙ append_assoc sent.front rest more;
  appends = sent.appends;
}

pub SentFront_then : (a b c : Option (List ℕ)) (text rest : List ℕ) → Sent a b text rest → SentFront b c rest → SentFront a c text
SentFront_then a b c text rest first second = (second.0, Sent_then a b c text rest second.0 first second.1)

pub SentFront_longer : (a b : Option (List ℕ)) (text more : List ℕ) → SentFront a b text → SentFront a b (text ++ more)
SentFront_longer a b text more sent = (sent.0 ++ more, Sent_longer a b text sent.0 more sent.1)

pub Writes_then : {T E : Type 0} (a b c : Option (List ℕ)) (r : Result T E) (text rest : List ℕ)
    → Sent a b text rest → Writes b c r rest → Writes a c r text
Writes_then a b c (Ok x) text rest first second = rw first.whole (Appends-trans a b c first.front rest first.appends second)
Writes_then a b c (Err e) text rest first second = SentFront_then a b c text rest first second

-- Two texts are added one after the other.

pub Sent_two : (a b c : Option (List ℕ)) (page x mid y kept : List ℕ)
    → Sent a b (page ++ x) mid → Sent b c (mid ++ y) kept → Sent a c (page ++ (x ++ y)) kept
Sent_two a b c page x mid y kept first second =
    rw (← append_assoc page x y)
    (Sent_then a b c ((page ++ x) ++ y) (mid ++ y) kept (Sent_longer a b (page ++ x) mid y first) second)

pub SentFront_two : (a b c : Option (List ℕ)) (page x mid y : List ℕ)
    → Sent a b (page ++ x) mid → SentFront b c (mid ++ y) → SentFront a c (page ++ (x ++ y))
SentFront_two a b c page x mid y first second = (second.0, Sent_two a b c page x mid y second.0 first second.1)

pub SentFront_one : (a b : Option (List ℕ)) (page x y : List ℕ) → SentFront a b (page ++ x) → SentFront a b (page ++ (x ++ y))
SentFront_one a b page x y first = rw (← append_assoc page x y) (SentFront_longer a b (page ++ x) y first)

pub Adds_two : {T E : Type 0} (a b c : Option (List ℕ)) (page x mid y kept : List ℕ) (r : Result T E)
    → Sent a b (page ++ x) mid → Adds b c mid kept r y → Adds a c page kept r (x ++ y)
Adds_two a b c page x mid y kept (Ok v) first second = Sent_two a b c page x mid y kept first second
Adds_two a b c page x mid y kept (Err e) first second = SentFront_two a b c page x mid y first second

-- the exit of a `?` of the first
pub Adds_stopped : {T E : Type 0} (a b : Option (List ℕ)) (page x y kept : List ℕ) (r : Result T E)
    → IsErr r → SentFront a b (page ++ x) → Adds a b page kept r (x ++ y)
Adds_stopped a b page x y kept (Ok v) err first = absurd (false≢true err)
Adds_stopped a b page x y kept (Err e) err first = SentFront_one a b page x y first

-- A loop adds the text of each item.

page_and_rest : {A : Type 0} (f : A → List ℕ) (xs : List A) (i : ℕ) (x d : A) (page : List ℕ) → i < length xs → x ≡ get_or xs i d
    → page ++ flat_map f (drop i xs) ≡ (page ++ f x) ++ flat_map f (drop (i + 1) xs)
page_and_rest f xs i x d page within is =
    rw (drop_more xs i d within, ← is) (sym (append_assoc page (f x) (flat_map f (drop (i + 1) xs))))

pub Sent_item : {A : Type 0} (f : A → List ℕ) (xs : List A) (i : ℕ) (x d : A) (a b c : Option (List ℕ)) (text page kept : List ℕ)
    → i < length xs → x ≡ get_or xs i d → Sent a b text (page ++ flat_map f (drop i xs)) → Sent b c (page ++ f x) kept
    → Sent a c text (kept ++ flat_map f (drop (i + 1) xs))
Sent_item f xs i x d a b c text page kept within is sent more =
    let rest = flat_map f (drop (i + 1) xs) in
    Sent_then a b c text (page ++ flat_map f (drop i xs)) (kept ++ rest) sent
    (rw (page_and_rest f xs i x d page within is) (Sent_longer b c (page ++ f x) kept rest more))

pub SentFront_item : {A : Type 0} (f : A → List ℕ) (xs : List A) (i : ℕ) (x d : A) (a b c : Option (List ℕ)) (text page : List ℕ)
    → i < length xs → x ≡ get_or xs i d → Sent a b text (page ++ flat_map f (drop i xs)) → SentFront b c (page ++ f x)
    → SentFront a c text
SentFront_item f xs i x d a b c text page within is sent more =
    SentFront_then a b c text (page ++ flat_map f (drop i xs)) sent
    (rw (page_and_rest f xs i x d page within is) (SentFront_longer b c (page ++ f x) (flat_map f (drop (i + 1) xs)) more))

-- No item is left.
pub Sent_rest : {A : Type 0} (f : A → List ℕ) (xs : List A) (i : ℕ) (a b : Option (List ℕ)) (text page : List ℕ) → i ≡ length xs
    → Sent a b text (page ++ flat_map f (drop i xs)) → Sent a b text page
Sent_rest f xs i a b text page all sent =
    let none : page ++ flat_map f (drop i xs) ≡ page =
    ap (λ l. page ++ flat_map f l) (drop_all i xs (omega (arith, all))) ∙ append-nil page in
    rw (← none) sent

-- a call that fails before or while it adds a text

pub Adds_unable : {T E : Type 0} (a b : Option (List ℕ)) (page kept text : List ℕ) (r : Result T E)
    → IsErr r → SentFront a b page → Adds a b page kept r text
Adds_unable a b page kept text (Ok v) err front = absurd (false≢true err)
Adds_unable a b page kept text (Err e) err front = SentFront_longer a b page text front

pub Adds_failed : {T E : Type 0} (a b : Option (List ℕ)) (page kept text : List ℕ) (r : Result T E)
    → IsErr r → SentFront a b (page ++ text) → Adds a b page kept r text
Adds_failed a b page kept text (Ok v) err front = absurd (false≢true err)
Adds_failed a b page kept text (Err e) err front = front

-- the page goes out, and then the text past it
pub Adds_past : {T E : Type 0} (a b c : Option (List ℕ)) (page kept text : List ℕ) (r : Result T E)
    → Appends a b page → kept ≡ [] → Writes b c r text → Adds a c page kept r text
Adds_past a b c page kept text (Ok v) first empty second =
    rw empty (Sent_all a c (page ++ text) (Appends-trans a b c page text first second))
Adds_past a b c page kept text (Err e) first empty second =
    SentFront_then a b c (page ++ text) text (Sent_longer a b page [] text (Sent_all a b page first)) second
