-- What is explored for a file, and the handlers that are asked for.
use Rattle.std.proofs.Common.{◌≡◌, ◌∙◌, ◌↔◌, ◌<◌, ◌+◌, ℕ, Bool, true, false, List, [], ◌∷◌, ◌++◌, length, map, Option, Some, None}
use Rattle.std.proofs.Common.{refl, sym, ap}
use Rattle.std.proofs.Common.{append_assoc, arith, inl, inr, subst}
use Rattle.std.specs.Prelude.{Contains, Err, IsSome, Ok, Result}
use Rattle.std.specs.Result.{IsErr}
use Rattle.byte_io.specs.Bytes.{SentFront, Writes}
use Rattle.std.specs.List.{AllByRecursion, list_all}
use Rattle.std.proofs.lemmas.Bool.{cases_lt, false≢true}
use Rattle.std.proofs.lemmas.List.Elements.{Contains-append_left, Contains-push, Contains-push_cases}
use Rattle.model.specs.declared.event.End.{End}
use Rattle.model.specs.Application.{Application}
use Rattle.model.specs.Campaign.{is_pass}
use Rattle.model.specs.Placements.{AreFound, Found, IsFound, Placed}
use Rattle.model.specs.Words.{source_named}
use Rattle.model.proofs.Among.{all_among, all_weaker}
use Rattle.report.specs.Found.{exploration_text}
use Rattle.requests.specs.Names.{names_of}
use Rattle.explorer.specs.Totals.{placements_in}
use Rattle.explorer.proofs.Totals.{all_counted}
use Rattle.campaign.specs.declared.file.ServeFault.{ServeFault}
use Rattle.campaign.specs.declared.file.ServeFault.TheVariants.{Read, NotToml, Load, UnknownHandler, TooManyPoints, Memory, Write}
use Rattle.campaign.specs.Named.{IsFirstUnknown}
use Rattle.campaign.specs.Serving.{HasFileFault, IsFileOf, Known, is_read_fault, is_write_fault, streams_of}
use Rattle.campaign.proofs.Faulty.{file_has_bytes, serves_fault}
use Rattle.jobs.specs.Explorations.{HasExploringFault, IsExplorationOf, IsExploringFault, IsFoundIn, IsNamingFault}
use Rattle.jobs.specs.Explorations.{ServesExploration}

-- ---- faults

-- A fault of a file is one of its exploration.
file_fault : (list : Option (List ℕ)) (bytes : List ℕ) (f : ServeFault) → HasFileFault bytes f → HasExploringFault list bytes f
file_fault list bytes Read h = h
file_fault list bytes NotToml h = h
file_fault list bytes (Load fault) h = h
file_fault list bytes (UnknownHandler place) h = absurd h
file_fault list bytes TooManyPoints h = h
file_fault list bytes Memory h = h
file_fault list bytes Write h = h

-- So is why nothing is found.
exploring_fault : (list : Option (List ℕ)) (bytes : List ℕ) (app : Application) (f : ServeFault)
    → IsFileOf bytes app → IsExploringFault list app f → HasExploringFault list bytes f
exploring_fault list bytes app Read file h = absurd h
exploring_fault list bytes app NotToml file h = absurd h
exploring_fault list bytes app (Load fault) file h = absurd h
exploring_fault list bytes app (UnknownHandler place) file h = (app, file, h)
exploring_fault list bytes app TooManyPoints file h = absurd h
exploring_fault list bytes app Memory file h = file_has_bytes bytes app file
exploring_fault list bytes app Write file h = absurd h

exploring_reads : (list : Option (List ℕ)) (app : Application) (f : ServeFault) → IsExploringFault list app f
    → is_read_fault {A = Bool} (Err f) ≡ false
exploring_reads list app Read h = absurd h
exploring_reads list app NotToml h = refl
exploring_reads list app (Load fault) h = refl
exploring_reads list app (UnknownHandler place) h = refl
exploring_reads list app TooManyPoints h = refl
exploring_reads list app Memory h = refl
exploring_reads list app Write h = refl

exploring_writes : (list : Option (List ℕ)) (app : Application) (f : ServeFault) → IsExploringFault list app f
    → is_write_fault {A = Bool} (Err f) ≡ false
exploring_writes list app Read h = absurd h
exploring_writes list app NotToml h = refl
exploring_writes list app (Load fault) h = refl
exploring_writes list app (UnknownHandler place) h = refl
exploring_writes list app TooManyPoints h = refl
exploring_writes list app Memory h = refl
exploring_writes list app Write h = absurd h

module _ (most : ℕ) (list : Option (List ℕ)) (input : Option (List ℕ)) (rf wf : Bool) (old : Option (List ℕ)) where
  -- a fault of the file itself
  pub exploration_file_fault : (f : ServeFault) → ((bytes : List ℕ) × Known input bytes × HasFileFault bytes f)
      → rf ≡ is_read_fault {A = Bool} (Err f) → is_write_fault {A = Bool} (Err f) ≡ false → wf ≡ false
      → ServesExploration most list (streams_of input rf old old wf) (Err f)
  exploration_file_fault f h r w e = serves_fault _ _ input rf wf old f (h.0, h.1, file_fault list h.0 f h.2) r w e

  -- an application of which nothing is found
  pub exploration_fault : (f : ServeFault) (app : Application) → ((bytes : List ℕ) × Known input bytes × IsFileOf bytes app)
      → IsExploringFault list app f → rf ≡ false → wf ≡ false → ServesExploration most list (streams_of input rf old old wf) (Err f)
  exploration_fault f app file h r e =
      serves_fault _ _ input rf wf old f (file.0, file.1, exploring_fault list file.0 app f file.2 h)
      (r ∙ sym (exploring_reads list app f h)) (exploring_writes list app f h) e

-- ---- names

-- Behind the handlers of some names comes one that no handler has.
pub first_unknown : (app : Application) (names : List (List ℕ)) (handlers : List ℕ) (more : List (Option ℕ))
    → map (source_named app) names ≡ map Some handlers ++ None ∷ more → IsFirstUnknown app names (length handlers)
first_unknown app [] [] more e = absurd (cc)
first_unknown app [] (h ∷ hs) more e = absurd (cc)
first_unknown app (name ∷ names) [] more e = cc
first_unknown app (name ∷ names) (h ∷ hs) more e =
    let first : source_named app name ≡ Some h = cc in
    let rest : map (source_named app) names ≡ map Some hs ++ None ∷ more = cc in
    (subst (λ (o : Option ℕ). IsSome o) (sym first) refl, first_unknown app names hs more rest)

-- So it is where one more can't be added.
pub naming_fault : (list : List ℕ) (app : Application) (handlers : List ℕ) (name : List ℕ) (others : List (List ℕ)) (f : ServeFault)
    → map (source_named app) (names_of list) ≡ map Some handlers ++ map (source_named app) (name ∷ others)
    → IsNamingFault app name (length handlers) f → IsExploringFault (Some list) app f
naming_fault list app handlers name others Read known h = absurd h
naming_fault list app handlers name others NotToml known h = absurd h
naming_fault list app handlers name others (Load fault) known h = absurd h
naming_fault list app handlers name others (UnknownHandler place) known h =
    subst (IsFirstUnknown app (names_of list)) (sym h.0)
    (first_unknown app (names_of list) handlers (map (source_named app) others)
    (known ∙ ap (λ (o : Option ℕ). map Some handlers ++ o ∷ map (source_named app) others) h.1))
naming_fault list app handlers name others TooManyPoints known h = absurd h
naming_fault list app handlers name others Memory known h = tt
naming_fault list app handlers name others Write known h = absurd h

-- One more is added.
pub named_more : (whole old new rest : List (Option ℕ)) (one : Option ℕ)
    → whole ≡ old ++ one ∷ rest → new ≡ old ++ one ∷ [] → whole ≡ new ++ rest
named_more whole old new rest one known added =
    known ∙ sym (append_assoc old (one ∷ []) rest) ∙ ap (λ (os : List (Option ℕ)). os ++ rest) (sym added)

-- ---- all handlers

pub below_more : (handlers : List ℕ) (n : ℕ) → ((handler : ℕ) → Contains handlers handler ↔ (handler < n))
    → (handler : ℕ) → Contains (handlers ++ n ∷ []) handler ↔ (handler < n + 1)
below_more handlers n all handler = (
  λ among. elim (Contains-push_cases handlers n handler among) [
    | inl before ↦ (let l = (all handler).0 before in omega (arith, l))
    | inr same ↦ omega (arith, same)
  ],
  λ l. elim (cases_lt handler n) [
    | inl before ↦ Contains-append_left handlers (n ∷ []) handler ((all handler).1 before)
    | inr late ↦
        (let same : n ≡ handler = omega (arith, l, late) in
        subst (Contains (handlers ++ n ∷ [])) same (Contains-push handlers n))
  ],
)

-- ---- whether all pass

-- It is so of all, where the test says so of each.
all_tested : {X : Type 0} (test : X → Bool) (xs : List X) → AllByRecursion (λ x. test x ≡ true) xs → list_all test xs ≡ true
all_tested test [] h = refl
all_tested test (x ∷ xs) h = rw (h.0, all_tested test xs h.1) refl

each_tested : {X : Type 0} (test : X → Bool) (xs : List X) → list_all test xs ≡ true → AllByRecursion (λ x. test x ≡ true) xs
each_tested test [] e = tt
each_tested test (x ∷ xs) e = by (test x) refl (each_tested test xs)
  where
    by : (b : Bool) → test x ≡ b → (list_all test xs ≡ true → AllByRecursion (λ x. test x ≡ true) xs)
        → AllByRecursion (λ x. test x ≡ true) (x ∷ xs)
    by true is rest = (is, rest (rw is at e))
    by false is rest = absurd (false≢true (rw is at e))

same_truth : (a b : Bool) → (a ≡ true → b ≡ true) → (b ≡ true → a ≡ true) → a ≡ b
same_truth true b f g = sym (f refl)
same_truth false true f g = g refl
same_truth false false f g = refl

-- All placements pass where all that is found is that they pass.
pub all_judged : (all : List Placed) (found : List Found) → AreFound all found
    → list_all (λ (f : Found). is_pass f.least.end) found ≡ list_all (λ (p : Placed). is_pass p.end) all
all_judged all found is =
    same_truth _ _
    (λ passes.
    let each = each_tested (λ (f : Found). is_pass f.least.end) found passes in
    all_tested (λ (p : Placed). is_pass p.end) all
    (all_weaker (λ (p : Placed). (f : Found) × Contains found f × (f.least.end ≡ p.end)) (λ (p : Placed). is_pass p.end ≡ true)
    (λ p some.
    subst (λ (e : End). is_pass e ≡ true) some.2
    (all_among (λ (f : Found). is_pass f.least.end ≡ true) found some.0 each some.1)) all is.whole))
    (λ passes.
    let each = each_tested (λ (p : Placed). is_pass p.end) all passes in
    all_tested (λ (f : Found). is_pass f.least.end) found
    (all_weaker (IsFound all) (λ (f : Found). is_pass f.least.end ≡ true)
    (λ f h. all_among (λ (p : Placed). is_pass p.end ≡ true) all f.least each h.among) found is.each))

-- The report of what is found is that of the exploration.
pub report_of : (most : ℕ) (list : Option (List ℕ)) (bytes : List ℕ) (app : Application) (found : List Found)
    → IsFileOf bytes app → IsFoundIn most list app found
    → IsExplorationOf most list bytes (exploration_text app (placements_in found) found)
    (list_all (λ (f : Found). is_pass f.least.end) found)
report_of most list bytes app found file is = record {
  app = app;
  file = file;
  handlers = is.handlers;
  asked = is.asked;
  found = found;
  explored = is.explored;
  judged = all_judged is.explored.all found is.explored.are_found;
  text =
      ap (λ (number : ℕ). exploration_text app number found)
      (all_counted app app.limits is.handlers most found is.explored);
}

-- ---- the exit of a call that writes

pub Writes_front : {T E : Type 0} (a b : Option (List ℕ)) (text : List ℕ) (r : Result T E)
    → IsErr r → SentFront a b text → Writes a b r text
Writes_front a b text (Ok v) err front = absurd (false≢true err)
Writes_front a b text (Err e) err front = front
