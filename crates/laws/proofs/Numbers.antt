-- A call's number is that of the first test that is not passed: chains of refusals, and what each call is when it is accepted or refused.
-- Assumes nothing.
use Prim.Native.Nat.{ℕ, zero, suc}
use mathlib.Core.Path.{◌≡◌, refl, sym, ap, ◌∙◌, subst}
use mathlib.Core.Bool.{Bool, true, false, cond, not}
use mathlib.Core.List.{List, [], ◌∷◌, ◌++◌}
use mathlib.Core.Logic.{◌⊎◌, inl, inr}
use lib.Dec.{T, eqb}
use lib.ListN.{length, drop}
use Rattle.lists.specs.Lists.{Words, all}
use Rattle.lists.proofs.Truth.{is_t, eq→eqb, eqb→≡, cond-true, cond-false, and-fst, and-snd, not→F}
use Rattle.meaning.specs.Answers.{unless, ◌or_else◌, refused}
use Rattle.meaning.specs.Sheet.{sheet_of, good_counts, good_words, good_tree, sheet_refusal}
use Rattle.meaning.specs.Plan.{store_length, good_plan, no_plan, plan}
use Rattle.meaning.specs.Base.{Change, good_change, tied_stay, base_of, good_base}
use Rattle.meaning.specs.Store.{model_of, sound, fits, show_refusal, stretch_of, show}
use Rattle.meaning.specs.Meaning.{meaning}
use Rattle.meaning.specs.Change.{model_after, agrees, change_refusal, accepted, change}
use Rattle.meaning.specs.Fill.{fill_refusal, filled, fill}
use Rattle.meaning.specs.Demands.{Refused, Test, First, sheet_tests, change_tests, fill_tests, show_tests}

-- All tests are passed; a list of tests in which no number is 0
abbrev pub Passed : List Test → Type 0
Passed [] = Unit {0}
Passed (t ∷ ts) = T t.passed × Passed ts

abbrev pub Numbered : List Test → Type 0
Numbered ts = T (all (λ t. not (eqb t.number 0)) ts)

-- the number 0 is given exactly if all tests are passed
pub first-zero : (ts : List Test) → Numbered ts → (number : ℕ) → First ts number → number ≡ 0 → Passed ts
first-zero [] h number f e = tt
first-zero (t ∷ ts) h number (inl f) e =
    absurd (not→F (eqb t.number 0) (and-fst (not (eqb t.number 0)) (all (λ t. not (eqb t.number 0)) ts) h) (eq→eqb (sym f.1 ∙ e)))
first-zero (t ∷ ts) h number (inr f) e =
    (f.0, first-zero ts (and-snd (not (eqb t.number 0)) (all (λ t. not (eqb t.number 0)) ts) h) number f.1 e)

pub passed-zero : (ts : List Test) (number : ℕ) → Passed ts → First ts number → number ≡ 0
passed-zero [] number p f = f
passed-zero (t ∷ ts) number p (inl f) = absurd (f.0 p.0)
passed-zero (t ∷ ts) number p (inr f) = passed-zero ts number p.1 f.1

-- past the tests that are passed
pub first_past : (ts us : List Test) (number : ℕ) → Passed ts → First (ts ++ us) number → First us number
first_past [] us number p f = f
first_past (t ∷ ts) us number p (inl f) = absurd (f.0 p.0)
first_past (t ∷ ts) us number p (inr f) = first_past ts us number p.1 f.1

-- the tests leave no choice of the number
pub first-once : (ts : List Test) (number other : ℕ) → First ts number → First ts other → number ≡ other
first-once [] number other f g = f ∙ sym g
first-once (t ∷ ts) number other (inl f) (inl g) = f.1 ∙ sym g.1
first-once (t ∷ ts) number other (inl f) (inr g) = absurd (f.0 g.0)
first-once (t ∷ ts) number other (inr f) (inl g) = absurd (g.0 f.0)
first-once (t ∷ ts) number other (inr f) (inr g) = first-once ts number other f.1 g.1

-- a chain of refusals has that number
abbrev pub first_of : List Test → ℕ
first_of [] = 0
first_of (t ∷ ts) = unless t.passed t.number (first_of ts)

pub first-of : (ts : List Test) → First ts (first_of ts)
first-of [] = refl
first-of (t ∷ ts) = go t.passed (first-of ts)
  where
    go : (b : Bool) → First ts (first_of ts)
        → ((T b → ⊥) × (unless b t.number (first_of ts) ≡ t.number)) ⊎ (T b × First ts (unless b t.number (first_of ts)))
    go true f = inr (tt, f)
    go false f = inl (λ h. h, refl)

-- a refusal that is met is the first
pub first-stays : (number rest : ℕ) → (number ≡ 0 → ⊥) → number or_else rest ≡ number
first-stays zero rest d = absurd (d refl)
first-stays (suc number) rest d = refl

pub sheet-chain : (sheet : Words) (ts : List Test) → sheet_refusal sheet or_else first_of ts ≡ first_of (sheet_tests sheet ++ ts)
unfolding sheet_refusal
sheet-chain sheet ts = go (good_counts sheet) (good_words (sheet_of sheet)) (good_tree (sheet_of sheet))
  where
    go : (a b c : Bool) → unless a 1 (unless b 2 (unless c 3 0)) or_else first_of ts ≡ unless a 1 (unless b 2 (unless c 3 (first_of ts)))
    go false b c = refl
    go true false c = refl
    go true true false = refl
    go true true true = refl

pub sheet-first : (sheet : Words) → First (sheet_tests sheet) (sheet_refusal sheet)
unfolding sheet_refusal
sheet-first sheet = first-of (sheet_tests sheet)

-- the number of a call that is one thing if its refusal is 0 and another if not
pub by_number : {A : Type 0} (number : A → ℕ) (k : ℕ) (x y : A) → number x ≡ 0 → number y ≡ k → number (cond (eqb k 0) x y) ≡ k
by_number number k x y e f = go (eqb k 0) refl
  where
    go : (b : Bool) → eqb k 0 ≡ b → number (cond b x y) ≡ k
    go true q = e ∙ sym (eqb→≡ k 0 (is_t q))
    go false q = f

-- The change call
pub change-number : (sheet store : Words) (c : Change) → (change sheet store c).number ≡ change_refusal sheet store c
unfolding change accepted
change-number sheet store c =
    by_number (λ o. o.number) (change_refusal sheet store c) (accepted (sheet_of sheet) store c) (refused (change_refusal sheet store c) store) refl refl

pub change-first : (sheet store : Words) (c : Change) → First (change_tests sheet store c) (change sheet store c).number
unfolding change_refusal
change-first sheet store c =
    subst (First (change_tests sheet store c)) (sym (change-number sheet store c ∙ sheet-chain sheet (drop 3 (change_tests sheet store c))))
    (first-of (change_tests sheet store c))

-- what an accepted change has passed
pub record ChangePassed (sheet store : Words) (c : Change) : Type 0 where
  pub of-sheet : Passed (sheet_tests sheet)
  pub long : length store ≡ store_length (sheet_of sheet)
  pub good : T (good_change (sheet_of sheet) c)
  pub tied-stay : T (tied_stay (sheet_of sheet) c)
  pub is-sound : T (sound (sheet_of sheet) store)
  pub agree : T (agrees (sheet_of sheet) (model_of (sheet_of sheet) store) c)
  pub fit : T (fits (sheet_of sheet) (model_after (sheet_of sheet) store c))

pub change-passed : (sheet store : Words) (c : Change) → (change sheet store c).number ≡ 0 → ChangePassed sheet store c
change-passed sheet store c e =
    let p = first-zero (change_tests sheet store c) tt _ (change-first sheet store c) e in
    let q = p.1.1.1 in
    record {
      of-sheet = (p.0, (p.1.0, (p.1.1.0, tt)));
      long = eqb→≡ (length store) (store_length (sheet_of sheet)) q.0;
      good = q.1.0;
      tied-stay = q.1.1.0;
      is-sound = q.1.1.1.0;
      agree = q.1.1.1.1.0;
      fit = q.1.1.1.1.1.0;
    }

pub change-accepted : (sheet store : Words) (c : Change) → (change sheet store c).number ≡ 0 → change sheet store c ≡ accepted (sheet_of sheet) store c
unfolding change
change-accepted sheet store c e = cond-true (eqb (change_refusal sheet store c) 0) _ _ (eq→eqb (sym (change-number sheet store c) ∙ e))

pub change-refused : (sheet store : Words) (c : Change) → Refused (change sheet store c).number
    → change sheet store c ≡ refused (change_refusal sheet store c) store
unfolding change
change-refused sheet store c d =
    cond-false (eqb (change_refusal sheet store c) 0) _ _ (λ h. d (change-number sheet store c ∙ eqb→≡ (change_refusal sheet store c) 0 h))

-- The fill call
pub fill-number : (sheet store run : Words) → (fill sheet store run).number ≡ fill_refusal sheet store run
unfolding fill filled
fill-number sheet store run =
    by_number (λ o. o.number) (fill_refusal sheet store run) (filled (sheet_of sheet) run) (refused (fill_refusal sheet store run) store) refl refl

pub fill-first : (sheet store run : Words) → First (fill_tests sheet store run) (fill sheet store run).number
unfolding fill_refusal
fill-first sheet store run =
    subst (First (fill_tests sheet store run)) (sym (fill-number sheet store run ∙ sheet-chain sheet (drop 3 (fill_tests sheet store run))))
    (first-of (fill_tests sheet store run))

-- what an accepted fill has passed
pub record FillPassed (sheet store run : Words) : Type 0 where
  pub of-sheet : Passed (sheet_tests sheet)
  pub long : length store ≡ store_length (sheet_of sheet)
  pub base : T (good_base (sheet_of sheet) run)
  pub fit : T (fits (sheet_of sheet) (meaning (sheet_of sheet) (base_of (sheet_of sheet) run)))

pub fill-passed : (sheet store run : Words) → (fill sheet store run).number ≡ 0 → FillPassed sheet store run
fill-passed sheet store run e =
    let p = first-zero (fill_tests sheet store run) tt _ (fill-first sheet store run) e in
    let q = p.1.1.1 in
    record {
      of-sheet = (p.0, (p.1.0, (p.1.1.0, tt)));
      long = eqb→≡ (length store) (store_length (sheet_of sheet)) q.0;
      base = q.1.0;
      fit = q.1.1.0;
    }

pub fill-accepted : (sheet store run : Words) → (fill sheet store run).number ≡ 0 → fill sheet store run ≡ filled (sheet_of sheet) run
unfolding fill
fill-accepted sheet store run e = cond-true (eqb (fill_refusal sheet store run) 0) _ _ (eq→eqb (sym (fill-number sheet store run) ∙ e))

pub fill-refused : (sheet store run : Words) → Refused (fill sheet store run).number → fill sheet store run ≡ refused (fill_refusal sheet store run) store
unfolding fill
fill-refused sheet store run d =
    cond-false (eqb (fill_refusal sheet store run) 0) _ _ (λ h. d (fill-number sheet store run ∙ eqb→≡ (fill_refusal sheet store run) 0 h))

-- The show call
pub show-first : (sheet store : Words) (part : ℕ) → First (show_tests sheet store part) (show sheet store part).number
unfolding show show_refusal
show-first sheet store part =
    subst (First (show_tests sheet store part)) (sym (sheet-chain sheet (drop 3 (show_tests sheet store part)))) (first-of (show_tests sheet store part))

pub show-accepted : (sheet store : Words) (part : ℕ) → (show sheet store part).number ≡ 0
    → (show sheet store part).words ≡ stretch_of (sheet_of sheet) store part
unfolding show
show-accepted sheet store part e = cond-true (eqb (show_refusal sheet store part) 0) _ _ (eq→eqb e)

pub show-refused : (sheet store : Words) (part : ℕ) → Refused (show sheet store part).number → (show sheet store part).words ≡ []
unfolding show
show-refused sheet store part d = cond-false (eqb (show_refusal sheet store part) 0) _ _ (λ h. d (eqb→≡ (show_refusal sheet store part) 0 h))

-- The plan call
pub plan-number : (sheet : Words) → (plan sheet).number ≡ sheet_refusal sheet
unfolding plan good_plan
plan-number sheet = by_number (λ p. p.number) (sheet_refusal sheet) (good_plan (sheet_of sheet)) (no_plan (sheet_refusal sheet)) refl refl

pub plan-first : (sheet : Words) → First (sheet_tests sheet) (plan sheet).number
plan-first sheet = subst (First (sheet_tests sheet)) (sym (plan-number sheet)) (sheet-first sheet)

pub plan-refused : (sheet : Words) → Refused (plan sheet).number → plan sheet ≡ no_plan (plan sheet).number
unfolding plan
plan-refused sheet d =
    cond-false (eqb (sheet_refusal sheet) 0) _ _ (λ h. d (plan-number sheet ∙ eqb→≡ (sheet_refusal sheet) 0 h)) ∙ ap no_plan (sym (plan-number sheet))
