-- What a kind's number and a number's kind say of each other.
-- Assumes nothing.
use Prim.Native.Nat.{ℕ}
use mathlib.Core.Path.{◌≡◌, refl}
use mathlib.Core.Bool.{Bool, true, false, cond}
use native.Mathlib.Omega.{arith}
use lib.Dec.{eqb}
use borrow.Author.Tests.{eqb-true, eqb-false}
use Rattle.std.specs.Prelude.{Result, Ok, Err}
use Rattle.lists.specs.Lists.{Words}
use Rattle.rows.specs.Rows.{Row}
use Rattle.meaning.specs.Base.{change_of}
use Rattle.sheet.specs.declared.refusal.Refusal.{Refusal}
use Rattle.sheet.specs.declared.refusal.Refusal.TheVariants.{BadRequest}
use Rattle.change_asked.specs.declared.kind.Kind.{Kind}
use Rattle.change_asked.specs.declared.kind.Kind.TheVariants.{Insert, Delete, Update}
use Rattle.change_asked.specs.Kinds.{kind_number, kind_of}
use Rattle.change_asked.specs.Asked.{asked_of}
use Rattle.change_asked.proofs.Tests.{no_kind}

-- by the three tests
by_kind : Bool → Bool → Bool → Result Kind Refusal
by_kind a b c = cond a (Ok Insert) (cond b (Ok Delete) (cond c (Ok Update) (Err BadRequest)))

pub kind-is : (k : ℕ) (kind : Kind) → Ok kind ≡ kind_of k → k ≡ kind_number kind
unfolding kind_of by_kind
kind-is k kind h = go (eqb k 1) refl (eqb k 2) refl (eqb k 3) refl h
  where
    go : (a : Bool) → eqb k 1 ≡ a → (b : Bool) → eqb k 2 ≡ b → (c : Bool) → eqb k 3 ≡ c → Ok kind ≡ by_kind a b c → k ≡ kind_number kind
    go true x b y c z h = let e : kind ≡ Insert = cc in rw e (eqb-true k 1 x)
    go false x true y c z h = let e : kind ≡ Delete = cc in rw e (eqb-true k 2 y)
    go false x false y true z h = let e : kind ≡ Update = cc in rw e (eqb-true k 3 z)
    go false x false y false z h = absurd (let q : ◌≡◌ {A = ℕ} 0 1 = cc in omega arith)

-- no such kind: the change is refused as it is where it is asked for
pub kind-refused : (ws : Words) (k t : ℕ) (r r' : Row) (e : Refusal) → Err e ≡ kind_of k → Err e ≡ asked_of ws (change_of k t r r')
unfolding kind_of by_kind
kind-refused ws k t r r' e h = go (eqb k 1) refl (eqb k 2) refl (eqb k 3) refl h
  where
    go : (a : Bool) → eqb k 1 ≡ a → (b : Bool) → eqb k 2 ≡ b → (c : Bool) → eqb k 3 ≡ c → Err e ≡ by_kind a b c
        → Err e ≡ asked_of ws (change_of k t r r')
    go true x b y c z h = absurd (let q : ◌≡◌ {A = ℕ} 0 1 = cc in omega arith)
    go false x true y c z h = absurd (let q : ◌≡◌ {A = ℕ} 0 1 = cc in omega arith)
    go false x false y true z h = absurd (let q : ◌≡◌ {A = ℕ} 0 1 = cc in omega arith)
    go false x false y false z h =
        let same : e ≡ BadRequest = cc in
        rw same (no_kind ws k t r r' (eqb-false k 1 x) (eqb-false k 2 y) (eqb-false k 3 z))
