-- The tests of refusals 5 and 6 as the code makes them.
-- Assumes nothing.
use Prim.Native.Nat.{ℕ, ◌<◌, ◌≤◌}
use mathlib.Core.Path.{◌≡◌, refl, sym, ap, ap₂, ◌∙◌}
use mathlib.Core.Bool.{Bool, true, false, cond, not, ◌&&◌, ◌||◌, and_comm}
use native.Mathlib.Omega.{arith}
use lib.Dec.{eqb, ltb}
use lib.ListN.{length}
use borrow.Author.Tests.{eqb-true, ne_eqb, lt-ltb, le-ltb}
use Rattle.lists.specs.Lists.{Words, at, any}
use Rattle.lists.specs.Loops.{every, some}
use Rattle.rows.specs.Rows.{Row, key}
use Rattle.meaning.specs.Sheet.{sheet_of, leaves, table_count, edge_count, condition_count}
use Rattle.meaning.specs.Base.{Change, change_of, good_change, tied, same_tied, tied_stay}
use Rattle.laws.proofs.Lists.{any-select}
use Rattle.sheet.specs.Numbered.{width_no, edge_no, condition_no}
use Rattle.sheet.proofs.Words.{n-is, width_is, edges_are, conditions-are}
use Rattle.sheet.proofs.Numbers.{any-up, all-up_to}
use Rattle.std.specs.Prelude.{Result, Ok, Err, ⊤}
use Rattle.sheet.specs.declared.refusal.Refusal.{Refusal}
use Rattle.sheet.specs.declared.refusal.Refusal.TheVariants.{BadRequest, AltersTied}
use Rattle.derive.specs.Derived.{leaves_by}
use Rattle.change_asked.specs.Asked.{condition_on, tied_no, stays_at, one_row, two_rows, asked_of}

-- tied, by number
pub tied_is : (ws : Words) (t c : ℕ) → tied_no ws t c ≡ (some (condition_on ws t c) (condition_count ws) || some (leaves_by ws t c) (edge_count ws))
unfolding tied_no tied condition_on leaves_by
tied_is ws t c =
    ap₂ ◌||◌
    (any-select (λ d. eqb d.column c) (λ d. eqb d.table t) (sheet_of ws).conditions
    ∙ ap (any (λ d. eqb d.table t && eqb d.column c)) (conditions-are ws)
    ∙ any-up (λ d. eqb d.table t && eqb d.column c) (condition_no ws) (condition_count ws))
    (any-select (λ e. eqb e.column c) (leaves t) (sheet_of ws).edges
    ∙ ap (any (λ e. leaves t e && eqb e.column c)) (edges_are ws) ∙ any-up (λ e. leaves t e && eqb e.column c) (edge_no ws) (edge_count ws))

-- what is answered by the two tests
abbrev asked_by : Bool → Bool → Result ⊤ Refusal
asked_by good stay = cond good (cond stay (Ok tt) (Err AltersTied)) (Err BadRequest)

-- the ways through `asked`
module _ (ws : Words) (kind t : ℕ) (r r' : Row) where
  pub no_table : table_count ws ≤ t → Err BadRequest ≡ asked_of ws (change_of kind t r r')
  unfolding asked_of good_change
  no_table h = rw (n-is ws, le-ltb t (table_count ws) h)

  pub no_kind : (kind ≡ 1 → ⊥) → (kind ≡ 2 → ⊥) → (kind ≡ 3 → ⊥) → Err BadRequest ≡ asked_of ws (change_of kind t r r')
  unfolding asked_of good_change
  no_kind a b c = rw (ne_eqb kind 1 a, ne_eqb kind 2 b, ne_eqb kind 3 c) (neither (ltb t (sheet_of ws).n))
    where
      neither : (b : Bool) → Err BadRequest ≡ asked_by (b && false) (tied_stay (sheet_of ws) (change_of kind t r r'))
      neither true = refl
      neither false = refl

module _ (ws : Words) (t : ℕ) (l : t < table_count ws) (r r' : Row) where
  in-sheet : ltb t (sheet_of ws).n ≡ true
  in-sheet = rw (n-is ws, lt-ltb t (table_count ws) l)

  -- the rows against the table's width
  module _ (w : ℕ) (e : w ≡ width_no ws t) where
    pub asked-insert : one_row (length r) (length r') w ≡ asked_of ws (change_of 1 t r r')
    unfolding asked_of good_change tied_stay one_row
    asked-insert = rw (in-sheet, width_is ws t l ∙ sym e)

    pub asked-delete : one_row (length r') (length r) w ≡ asked_of ws (change_of 2 t r r')
    unfolding asked_of good_change tied_stay one_row
    asked-delete = rw (in-sheet, width_is ws t l ∙ sym e, and_comm (eqb (length r') 0) (eqb (length r) w))

    pub asked-update : two_rows ws t r r' w ≡ asked_of ws (change_of 3 t r r')
    unfolding asked_of good_change tied_stay two_rows same_tied stays_at tied_no
    asked-update = rw (in-sheet, width_is ws t l ∙ sym e, all-up_to stays w) (go (eqb (length r) w) refl)
      where
        stays : ℕ → Bool
        stays c = not (tied (sheet_of ws) t c) || eqb (at r c) (at r' c)

        -- the columns of the row that is there are those of the table
        go : (b : Bool) → eqb (length r) w ≡ b
            → asked_by (b && eqb (length r') w && eqb (key r) (key r')) (every stays (length r))
            ≡ asked_by (b && eqb (length r') w && eqb (key r) (key r')) (every stays w)
        go true q = rw (eqb-true (length r) w q)
        go false q = refl

-- a verdict on what is asked, taken apart
module _ (ws : Words) (c : Change) where
  pub asked-good : asked_of ws c ≡ Ok tt → (good_change (sheet_of ws) c ≡ true) × (tied_stay (sheet_of ws) c ≡ true)
  unfolding asked_of
  asked-good h = go (good_change (sheet_of ws) c) (tied_stay (sheet_of ws) c) h
    where
      go : (a b : Bool) → asked_by a b ≡ Ok tt → (a ≡ true) × (b ≡ true)
      go true true h = (refl, refl)
      go true false h = absurd (let z : ◌≡◌ {A = ℕ} 0 1 = cc in omega arith)
      go false b h = absurd (let z : ◌≡◌ {A = ℕ} 0 1 = cc in omega arith)
