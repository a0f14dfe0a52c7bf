-- A side table's part as it is lent: its columns, its zeros and its room; and the store with one side table more.
-- Assumes nothing.
use Prim.Native.Nat.{ℕ, ◌+◌, ◌-◌, ◌*◌, ◌<◌, ◌≤◌}
use mathlib.Core.Path.{◌≡◌, sym, ap, ◌∙◌, subst}
use mathlib.Core.Bool.{cond}
use mathlib.Core.List.{List, [], map}
use native.Mathlib.Nat.{mul-le-mul_right}
use native.Mathlib.Omega.{arith}
use lib.Dec.{T, ltb}
use lib.ListN.{length, get_or, take, drop, set, replicate, length-take, length-drop}
use lib.Seq.{ext_get_or, get_or-take, get_or-drop}
use borrow.Author.Tests.{leb-true, le-ltb}
use borrow.Rule.Slice.PartMut.{put_mid}
use Rattle.lists.specs.Lists.{Words}
use Rattle.lists.specs.Parts.{part}
use Rattle.rows.specs.Rows.{Rows, rising, pick}
use Rattle.rows.specs.Regions.{laid, Holds}
use Rattle.rows.proofs.Sorted.{rising-sorted}
use Rattle.meaning.specs.Sheet.{room, sheet_of, table_count}
use Rattle.meaning.specs.Plan.{shown, columns, size}
use Rattle.meaning.specs.Meaning.{side_table, qualified_in}
use Rattle.meaning.specs.Store.{part_rows, part_words}
use Rattle.laws.proofs.Lists.{at-up_to}
use Rattle.laws.proofs.Models.{part-side}
use Rattle.laws.proofs.Columns.{columns-side}
use Rattle.laws.proofs.Qualified.{side-kept}
use Rattle.places.specs.Stands.{with_part}
use Rattle.places.proofs.Parts.{words-length}
use Rattle.places.proofs.Writes.{part-lent}
use Rattle.sheet.proofs.Words.{n-is}
use Rattle.sheet_plan.specs.declared.Plan.{Plan}
use Rattle.store.specs.declared.Part.{Part}
use Rattle.store.specs.Parts.{words_in, Lies, Within}
use Rattle.store.specs.Plans.{GoodPlan, part_of}
use Rattle.store.proofs.Lying.{stop_is, words-is, lies_within}
use Rattle.store.proofs.Plans.{part_lies}
use Rattle.filling.specs.Written.{partly, side_fits}
use Rattle.places.proofs.Laid.{laid_none, laid-holds}
use Rattle.filling.proofs.Models.{partly-many, partly-next, partly-unkept}
use Rattle.base_run.specs.Bases.{tables_of}
use Rattle.fill_sides.specs.Sides.{side_of, fits_no, partly_of, PartReady, SideReady, SidesStand, Front}
use Rattle.fill_sides.proofs.Rows.{wide-side}
use Rattle.fill_sides.proofs.Counts.{unkept-here}

-- an unkept table has none
pub store-unkept : (ws run : Words) {p : Plan} → GoodPlan (sheet_of ws) p → {t : ℕ} → t < table_count ws → {store : Words}
    → SidesStand ws run t store → get_or p.kept t 0 ≡ 0 → SidesStand ws run (t + 1) store
unfolding partly_of
store-unkept ws run plan {t} l st e = rw (← partly-unkept (sheet_of ws) (tables_of ws run) t (omega (arith, n-is ws)) (unkept-here ws plan l e)) st

module _ {ws run : Words} {p : Plan} {t : ℕ} {store : Words} (a : SideReady ws run p t store) where
  inside : t < (sheet_of ws).n
  inside = omega (arith, a.table, n-is ws)

  within-n : t ≤ (sheet_of ws).n
  within-n = omega (arith, inside)

  pub tables-in : (t ≤ p.tables) × (p.tables ≤ 8)
  tables-in = let plan = a.planned.planned in (omega (arith, within-n, plan.tables-are), plan.tables-few)

  module _ {q : Part} (e : q ≡ part_of p t) where
    lies : Lies (sheet_of ws) t q
    lies = part_lies (sheet_of ws) p a.planned t within-n q e

    pub part-within : Within q store
    part-within = lies_within (sheet_of ws) t q lies a.planned.good store a.stands.long

    -- its words: zeros so far
    abbrev lent : Words
    lent = take (q.start + q.room * q.columns - q.start) (drop q.start store)

    words_are : lent ≡ part_words (sheet_of ws) store t
    words_are = unfold words_in in unfold part in words-is (sheet_of ws) t q lies store

    long : length lent ≡ size (sheet_of ws) t
    long = ap length words_are ∙ words-length (sheet_of ws) store a.stands.long t within-n

    none : part_rows (partly_of ws run t) t ≡ []
    unfolding partly_of partly
    none =
        part-side (partly (sheet_of ws) (tables_of ws run) t) (sheet_of ws).n (partly-many (sheet_of ws) (tables_of ws run) t) t inside
        ∙ at-up_to (λ u. cond (ltb u t) (side_table (sheet_of ws) (tables_of ws run) u) []) [] (sheet_of ws).n t inside
        ∙ rw (le-ltb t t (omega arith))

    pub part-zeros : lent ≡ replicate (length lent) 0
    part-zeros =
        let held = (a.stands.holds t within-n).words in
        words_are ∙ held ∙ ap (laid (length (part_words (sheet_of ws) store t))) none ∙ sym (laid_none (length (part_words (sheet_of ws) store t)))
        ∙ ap (λ (ws : Words). replicate (length ws) 0) (sym words_are)

    columns-are : q.columns ≡ length (shown (sheet_of ws) t)
    columns-are = lies.columns-is ∙ columns-side (sheet_of ws) t inside a.is-kept

    pub columns-end : 8 * t + q.columns ≤ 64
    columns-end = let plan = a.planned.planned in omega (arith, columns-are, plan.shown-few t, inside, plan.tables-few, plan.tables-are)

    -- the columns that it shows
    abbrev lent_columns : List ℕ
    lent_columns = take (8 * t + q.columns - 8 * t) (drop (8 * t) p.shown)

    columns-lent : lent_columns ≡ shown (sheet_of ws) t
    columns-lent =
        let plan = a.planned.planned in
        let many : length lent_columns ≡ length (shown (sheet_of ws) t) =
        simp (length-take, length-drop) (omega (arith, columns-are, columns-end, plan.lengths.shown-length)) in
        ext_get_or 0 lent_columns (shown (sheet_of ws) t) many
        (λ j h. get_or-take (8 * t + q.columns - 8 * t) (drop (8 * t) p.shown) j 0 (omega (arith, columns-are, many)) ∙ get_or-drop (8 * t) p.shown j 0
        ∙ plan.shown-at t j (omega (arith, inside, plan.tables-few, plan.tables-are)) (omega (arith, many, plan.shown-few t)))

    fits-size : length (side_of ws run t) * columns (sheet_of ws) t ≤ size (sheet_of ws) t
    unfolding size fits_no side_fits side_of
    fits-size =
        mul-le-mul_right (columns (sheet_of ws) t) (leb-true (length (side_table (sheet_of ws) (tables_of ws run) t)) (room (sheet_of ws) t) a.fits)

    pub part-ready : PartReady ws run t lent_columns lent
    part-ready =
        record {
          table = a.table;
          is-kept = a.is-kept;
          columns-are = columns-lent;
          zeros = part-zeros;
          room = rw (columns-lent, ← columns-side (sheet_of ws) t inside a.is-kept, long) fits-size;
        }

    -- written
    rises : T (rising (side_of ws run t))
    unfolding side_of
    rises =
        subst (λ (rows : Rows). T (rising rows)) (sym (side-kept (sheet_of ws) (tables_of ws run) t a.is-kept))
        (rising-sorted (map (pick (shown (sheet_of ws) t)) (qualified_in (sheet_of ws) (tables_of ws run) (sheet_of ws).n t)))

    next : with_part (partly_of ws run t) t (side_of ws run t) ≡ partly_of ws run (t + 1)
    unfolding partly_of side_of
    next = partly-next (sheet_of ws) (tables_of ws run) t inside

    pub store-written : (many : ℕ) (after : Words) → Front (side_of ws run t) (length lent) many after
        → SidesStand ws run (t + 1) (set (put_mid q.start (q.start + q.room * q.columns - q.start) store after) q.slot many)
    store-written many after f =
        let rows = side_of ws run t in
        let held : Holds (columns (sheet_of ws) t) (length rows) rows (laid (size (sheet_of ws) t) rows) =
        laid-holds (columns (sheet_of ws) t) (size (sheet_of ws) t) rows
        (rw (columns-side (sheet_of ws) t inside a.is-kept) (wide-side ws run t a.is-kept)) fits-size rises in
        let now : after ≡ laid (size (sheet_of ws) t) rows = f.words ∙ ap (λ (k : ℕ). laid k rows) long in
        rw (← next)
        (part-lent (sheet_of ws) a.planned.good store (partly_of ws run t) a.stands t within-n rows many after
        q.start (q.start + q.room * q.columns) q.slot
        lies.start_is (stop_is (sheet_of ws) t q lies) lies.slot_is (rw (f.many-are, now) held) (f.long ∙ long))

pub store-end : (ws run store : Words) (t n : ℕ) → t ≤ n → n ≤ t → SidesStand ws run t store → SidesStand ws run n store
store-end ws run store t n h l st = let e : t ≡ n = omega arith in rw (← e) st
