use Rattle.std.specs.Prelude.{◌≡◌, ℕ, ◌≤◌, Bool, false, List, [], ◌∷◌, ◌++◌, length, is_ok, Ok, Err, Result, MatchResult, if◌then◌else◌}
use Rattle.string_view.specs.Checks.{first_fail, answered}
use Rattle.string_view.specs.Refusals.{Refusal}
use Rattle.string_view.specs.Sequences.{inserted}
use Rattle.string_view.specs.Views.{Frame}
use Rattle.string_view.specs.declared.StringView as view
use Rattle.rules.specs.declared.SemanticStringAccessor as accessor
use Rattle.semantic_string.specs.Checks.{content, inserting, pushing}
use Rattle.semantic_string.specs.Edits.{Outcome, outcome}
use Rattle.semantic_string.specs.Refusals.{semantic_told}
use Rattle.semantic_string.specs.declared.SemanticString.{SemanticString}
use Rattle.semantic_string.specs.declared.error.SemanticStringError.{SemanticStringError}

-- What a refused set-up leaves free: the storage is used up, and whatever text lies in its cells then is nobody's.
-- Of the state in which it was let go this alone is said: what every call keeps, it kept.
abbrev pub UsedUp : {S : Type 0} → view.Ghosts S → S → Type 0
UsedUp {S} v storage = (last : S) × Frame v storage last

-- a set-up's answer, but for the text that was made
abbrev pub set_up_as : {S R : Type 0} → Result (SemanticString S R) SemanticStringError → Result (Unit {0}) SemanticStringError
set_up_as (Ok t) = Ok tt
set_up_as (Err e) = Err e

-- texts over a storage of the meaning v, under a rule of the meaning a
module _ {S R : Type 0} (v : view.Ghosts S) (a : accessor.Ghosts R) where
  abbrev pub text_of : SemanticString S R → List ℕ
  text_of t = v.seq t.storage

  abbrev pub room_of : SemanticString S R → ℕ
  room_of t = v.room t.storage

  -- what its rule says of a sequence
  abbrev pub bad_of : SemanticString S R → List ℕ → Bool
  bad_of t = a.bad_content t.rule

  -- valid under its rule, and within its capacity
  pub record Sound (t : SemanticString S R) : Type 0 where
    pub valid : bad_of t (text_of t) ≡ false
    pub fits : length (text_of t) ≤ room_of t

  -- An edit was settled: the first of its checks that fails is the answer, and then nothing has moved; where none
  -- fails, the answer and the text are those of the plain edit. Either way a sound text stays sound.
  pub record Settled {A : Type 0} (checks : List (Bool × Refusal)) (o : Outcome A) (earlier later : SemanticString S R) (r : Result A SemanticStringError) : Type 0 where
    pub answer : answered semantic_told r ≡ first_fail o.answer checks
    pub text : text_of later ≡ (if is_ok r then o.sequence else text_of earlier)
    pub rule : later.rule ≡ earlier.rule
    pub frame : Frame v earlier.storage later.storage
    pub sound : Sound earlier → Sound later

  -- an edit that only the rule can refuse
  abbrev pub Checked : {A : Type 0} → (List ℕ → Outcome A) → SemanticString S R → SemanticString S R → Result A SemanticStringError → Type 0
  Checked edit earlier later r = Settled (content (bad_of earlier) (edit (text_of earlier)).sequence ∷ []) (edit (text_of earlier)) earlier later r

  -- an insertion of b at p
  abbrev pub Inserted : ℕ → List ℕ → SemanticString S R → SemanticString S R → Result (Unit {0}) SemanticStringError → Type 0
  Inserted p b earlier later r = Settled (inserting (bad_of earlier) (room_of earlier) (text_of earlier) p b) (outcome tt (inserted p b (text_of earlier))) earlier later r

  -- an insertion of b at the end
  abbrev pub Appended : List ℕ → SemanticString S R → SemanticString S R → Result (Unit {0}) SemanticStringError → Type 0
  Appended b earlier later r = Settled (pushing (bad_of earlier) (room_of earlier) (text_of earlier) b) (outcome tt (text_of earlier ++ b)) earlier later r

  -- t was set up with the text b
  pub record Made (storage : S) (rule : R) (b : List ℕ) (t : SemanticString S R) : Type 0 where
    pub text : text_of t ≡ b
    pub law : t.rule ≡ rule
    pub frame : Frame v storage t.storage
    pub sound : Sound t

  -- what came of a set-up, beside the answer
  abbrev pub SetUp : S → R → List ℕ → Result (SemanticString S R) SemanticStringError → Type 0
  SetUp storage rule b r = MatchResult r (Made storage rule b) (λ _. UsedUp v storage)
