-- A part of the store, as code knows it: what a function of `rows` asks of it when it is lent, and what it leaves in the whole store.
-- Assumes nothing.
use Prim.Native.Nat.{ℕ, ◌+◌, ◌-◌, ◌*◌, ◌<◌, ◌≤◌}
use mathlib.Core.Path.{◌≡◌, refl, sym, ap, ap₂, ◌∙◌, subst}
use mathlib.Core.Bool.{Bool, true, false}
use native.Mathlib.Omega.{arith}
use lib.ListN.{length, get_or, set, take, drop}
use lib.Seq.{set-get_or}
use borrow.Rule.Slice.PartMut.{put_mid}
use Rattle.lists.specs.Lists.{Words}
use Rattle.lists.specs.Parts.{part, splice}
use Rattle.lists.proofs.Parts.{put_back, length_part}
use Rattle.rows.specs.Rows.{Rows, cut}
use Rattle.rows.specs.Regions.{laid, Region, Holds, sound_region, sound_side}
use Rattle.rows.proofs.Cut.{row_fits}
use Rattle.rows.proofs.Regions.{holds-count}
use Rattle.places.proofs.Splices.{at-splice}
use Rattle.store.specs.declared.Part.{Part}
use Rattle.store.specs.Parts.{size_of, stop_of, words_in, count_in, rows_in, sound_in, Within, Kept, with_rows, Wrote}

-- what the two tests of `rows` find is what is asked of a part
module _ (p : Part) (ws : Words) {keyed b : Bool} {n : ℕ} {x : Words} (counted : n ≡ count_in p ws) (read : x ≡ words_in p ws) where
  pub sound-keyed : keyed ≡ true → b ≡ sound_side p.columns p.room n x → b ≡ sound_in p keyed ws
  unfolding sound_in
  sound-keyed e h = rw (e, sym counted, sym read) h

  pub sound-unkeyed : keyed ≡ false → b ≡ sound_region p.columns p.room n x → b ≡ sound_in p keyed ws
  unfolding sound_in
  sound-unkeyed e h = rw (e, sym counted, sym read) h

module _ (p : Part) (ws : Words) (win : Within p ws) where
  pub part-long : length (words_in p ws) ≡ size_of p
  unfolding words_in
  part-long = length_part ws p.start (stop_of p) win.ends ∙ omega arith

  -- the part's words written anew, and its count set
  pub wrote-anew : (rows : Rows) (n : ℕ) (x : Words) → Holds p.columns n rows x → length x ≡ size_of p
      → Wrote p rows ws (set (splice ws p.start (stop_of p) x) p.slot n)
  unfolding with_rows
  wrote-anew rows n x h long =
      let is : x ≡ laid (size_of p) rows = h.words ∙ ap (λ (j : ℕ). laid j rows) long in
      let many : n ≡ length rows = sym (holds-count p.columns n rows x h) in
      record {
        words = ap₂ (λ (y : Words) (j : ℕ). set (splice ws p.start (stop_of p) y) p.slot j) is many;
        long = ap length (sym is) ∙ long;
        held = rw (is, many) at h;
      }

  -- a lent part that is back
  back : (x : Words) → put_mid p.start (stop_of p - p.start) ws x ≡ splice ws p.start (stop_of p) x
  back x = put_back ws p.start (stop_of p) x x (omega arith) refl

  -- and its count is set
  pub wrote : (rows : Rows) (n : ℕ) (x : Words) → Holds p.columns n rows x → length x ≡ length (words_in p ws)
      → Wrote p rows ws (set (put_mid p.start (stop_of p - p.start) ws x) p.slot n)
  wrote rows n x h e = rw (back x) (wrote-anew rows n x h (e ∙ part-long))

  -- or stays
  pub wrote-as-many : (rows : Rows) (x : Words) → Holds p.columns (count_in p ws) rows x → length x ≡ length (words_in p ws)
      → Wrote p rows ws (put_mid p.start (stop_of p - p.start) ws x)
  wrote-as-many rows x h e =
      let y = splice ws p.start (stop_of p) x in
      let counted : get_or y p.slot 0 ≡ count_in p ws
      = at-splice ws p.start (stop_of p) x (omega arith) win.ends p.slot (omega (arith, win.counted, win.behind)) in
      rw (back x)
      (subst (Wrote p rows ws) (ap (set y p.slot) (sym counted) ∙ set-get_or y p.slot 0)
      (wrote-anew rows (count_in p ws) x h (e ∙ part-long)))

pub words-length : (p : Part) (ws : Words) → Kept p ws → length (words_in p ws) ≡ size_of p
words-length p ws k = part-long p ws k.within

-- Its words and its count as the code reads them
module _ {p : Part} {ws : Words} (k : Kept p ws) {n : ℕ} {x : Words} (counted : n ≡ count_in p ws) (read : x ≡ words_in p ws) where
  pub read-region : Region p.columns n x
  read-region = rw (counted, read) k.region

  pub read-rows : cut p.columns n x ≡ rows_in p ws
  unfolding rows_in
  read-rows = ap₂ (cut p.columns) counted read

  -- one row more has room
  pub one_more : n < p.room → n * p.columns + p.columns ≤ length x
  one_more l = row_fits p.columns p.room n (length x) l (omega (arith, ap length read, part-long p ws k.within))

-- as the code lends them, up to the end that it computes
pub lent-words : (p : Part) (ws : Words) {e : ℕ} → e ≡ stop_of p → take (e - p.start) (drop p.start ws) ≡ words_in p ws
unfolding words_in part
lent-words p ws end = ap (λ (to : ℕ). take (to - p.start) (drop p.start ws)) end

-- and what stands in the store when they are back
pub lent-back : (p : Part) (ws : Words) {e : ℕ} → e ≡ stop_of p → (f : Words → Words) {x : Words} → x ≡ f (take (e - p.start) (drop p.start ws))
    → put_mid p.start (e - p.start) ws x ≡ splice ws p.start (stop_of p) (f (words_in p ws))
lent-back p ws end f {x} is = rw end (put_back ws p.start (stop_of p) x (f (words_in p ws)) (omega arith) (is ∙ ap f (lent-words p ws end)))

-- The same where they are lent to be written: what is written is what a function of `rows` makes of the rows
module _ {p : Part} {ws : Words} (k : Kept p ws) {n e : ℕ} (counted : n ≡ count_in p ws) (end : e ≡ stop_of p) where
  abbrev lent : Words
  lent = take (e - p.start) (drop p.start ws)

  rows : cut p.columns n lent ≡ rows_in p ws
  rows = read-rows k counted (lent-words p ws end)

  long : (x : Words) → length x ≡ length lent → length x ≡ length (words_in p ws)
  long x same = same ∙ ap length (lent-words p ws end)

  module _ (f : Rows → Rows) {x : Words} (same : length x ≡ length lent) where
    pub wrote-rows : (m : ℕ) → Holds p.columns m (f (cut p.columns n lent)) x
        → Wrote p (f (rows_in p ws)) ws (set (put_mid p.start (e - p.start) ws x) p.slot m)
    wrote-rows m h = rw end (wrote p ws k.within (f (rows_in p ws)) m x (rw rows at h) (long x same))

    pub wrote-over : Holds p.columns n (f (cut p.columns n lent)) x → Wrote p (f (rows_in p ws)) ws (put_mid p.start (e - p.start) ws x)
    wrote-over h = rw end (wrote-as-many p ws k.within (f (rows_in p ws)) x (rw (rows, counted) at h) (long x same))
