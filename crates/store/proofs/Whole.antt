-- A store's tests by the plan: what the code finds of a part is what the definition says of it, for the sheet of which it is the plan.
-- Assumes nothing.
use Rattle.std.proofs.Common.{ℕ, ◌<◌, ◌≡◌, sym, ap, ◌∙◌, Bool, true, false, List, Option, length, get_or, arith}
use Rattle.std.specs.declared.ops.Range.{Range}
use Rattle.std.specs.Iterator.{YieldsThen}
use Rattle.std.specs.Option.{MatchOption}
use Rattle.std.specs.List.{FoldsTo}
use Rattle.std.proofs.iter.Yields.{nat_range_steps}
use denote.Param.Members.{Mut, Called}
use lib.Dec.{eqb}
use Rattle.lists.specs.Lists.{Words, at}
use Rattle.lists.proofs.Chains.{every-from_all}
use Rattle.sheet_plan.specs.declared.Plan.{Plan}
use Rattle.places.proofs.Parts.{slot-table, slot-list}
use Rattle.store.specs.declared.Part.{Part}
use Rattle.store.specs.Tests.{absent_zero, table_sound}
use Rattle.store.specs.Parts.{count_in, sound_in}
use Rattle.store.specs.Plans.{part_of, TableIs, SidesIs, SoundIs}
use Rattle.store.proofs.Tests.{table_kept, table-unkept, list-part, sound-length, sound-absent, sound-sides, sound-list}
use Rattle.store.proofs.Lying.{words-is, count-is}
use Rattle.store.proofs.Plans.{tables-is, store_is, marked, unmarked, part_lies, list-lies}

module _ (p : Plan) (ws : Words) where
  -- a table by its part and its mark
  module _ {t : ℕ} {q : Part} {b : Bool} (l : t < p.tables) (e : q ≡ part_of p t) where
    pub unkept-is : get_or p.kept t 0 ≡ 0 → b ≡ eqb (count_in q ws) 0 → TableIs p ws t b
    unkept-is none f =
        record {
          is = λ s plan.
              let i : t < s.n = omega (arith, tables-is s p plan) in
              let slot_is : q.slot ≡ t = (part_lies s p plan t (omega arith) q e).slot_is ∙ slot-table s t i in
              f ∙ ap (λ (k : ℕ). eqb (at ws k) 0) slot_is ∙ sym (table-unkept s ws t i (unmarked s p plan t i none));
        }

    pub kept-is : (get_or p.kept t 0 ≡ 0 → ⊥) → b ≡ sound_in q true ws → TableIs p ws t b
    unfolding sound_in
    kept-is d f =
        record {
          is = λ s plan.
              let i : t < s.n = omega (arith, tables-is s p plan) in
              let lies = part_lies s p plan t (omega arith) q e in
              f ∙ rw (words-is s t q lies ws, count-is s t q lies ws, lies.columns-is, lies.room-is, slot-table s t i)
              (sym (table_kept s ws t i (marked s p plan t i d)));
        }

  -- all of them, one after the other
  pub sides-all : {F : Type 0} {g : Mut F (ℕ × Unit {0}) Bool} (u : Range ℕ) (f : F) (b : Bool)
      → (xs : List ℕ) × (o : Option ℕ) × (j : F) × YieldsThen nat_range_steps (record { start = 0; end = p.tables }) xs o u
      × FoldsTo (λ h x q. Called g h (x, tt) true q) f xs j × MatchOption o (b ≡ true) (λ x. (b ≡ false) × ((h : F) × Called g j (x, tt) false h))
      → ((t : ℕ) (c : Bool) (q : F) → Called g f (t, tt) c q → (q ≡ f) × TableIs p ws t c) → SidesIs p ws b
  sides-all u f b ran says =
      record {
        is = λ s plan.
            every-from_all (table_sound s ws) u f b (tables-is s p plan) ran
            (λ t c q k. let told = says t c q k in (told.0, told.1.is s plan));
      }

  -- the whole
  pub long-fails : (length ws ≡ p.store → ⊥) → SoundIs p ws false
  long-fails d = record { is = λ s plan. sound-length s ws (λ e. d (e ∙ sym (store_is s p plan))) }

  pub absent-fails : absent_zero p.tables ws ≡ false → SoundIs p ws false
  absent-fails e = record { is = λ s plan. sound-absent s ws (ap (λ (n : ℕ). absent_zero n ws) (sym (tables-is s p plan)) ∙ e) }

  pub sides-fails : (b : Bool) → SidesIs p ws b → b ≡ false → SoundIs p ws false
  sides-fails b sides e = record { is = λ s plan. sound-sides s ws (sym (sides.is s plan) ∙ e) }

  pub list-decides : (b : Bool) (q : Part) (r : Bool) → length ws ≡ p.store → absent_zero p.tables ws ≡ true → SidesIs p ws b → b ≡ true
      → q ≡ part_of p p.tables → r ≡ sound_in q false ws → SoundIs p ws r
  unfolding sound_in
  list-decides b q r long absent sides e f h =
      record {
        is = λ s plan.
            let n = tables-is s p plan in
            let lies = list-lies s p plan q f in
            h
            ∙ rw (words-is s s.n q lies ws, count-is s s.n q lies ws, lies.columns-is, lies.room-is, slot-list s) (sym (list-part s ws))
            ∙ sound-list s ws (long ∙ store_is s p plan) (ap (λ (n : ℕ). absent_zero n ws) (sym n) ∙ absent) (sym (sides.is s plan) ∙ e);
      }
