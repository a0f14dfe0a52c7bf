-- The words of a part written anew, in any order: what is read then, and what a function that settles them leaves.
-- Assumes nothing.
use Prim.Native.Nat.{ℕ, ◌+◌, ◌-◌, ◌*◌, ◌<◌, ◌≤◌}
use mathlib.Core.Path.{◌≡◌, refl, sym, ap, ap₂, ◌∙◌, subst}
use mathlib.Core.List.{[], ◌∷◌, ◌++◌}
use native.Mathlib.Nat.{mul-le-mul_right}
use native.Mathlib.Omega.{arith}
use lib.Dec.{T, eqb}
use lib.ListN.{length, take, drop, set, length-append, take-append-drop}
use lib.Seq.{take_at, drop-drop, set-get_or}
use borrow.Rule.Slice.PartMut.{put_mid}
use Rattle.lists.specs.Lists.{Words, all}
use Rattle.lists.specs.Parts.{part, splice}
use Rattle.lists.proofs.Parts.{drop-splice}
use Rattle.rows.specs.Rows.{Row, Rows, Wide, cut, rising, sorted}
use Rattle.rows.specs.Words.{written}
use Rattle.rows.specs.Regions.{laid}
use Rattle.rows.proofs.Cut.{row_fits, wide-first, wide-rest, wide-cons, cut-length, cut-zero, take-cut, wide-cut}
use Rattle.rows.proofs.Regions.{region-words, holds, region-holds}
use Rattle.rows.proofs.Sorted.{rising_none, rising-sorted}
use Rattle.places.proofs.Laid.{laid-long, laid_more, laid-zeros, laid-cut}
use Rattle.places.proofs.Splices.{length-splice, part-splice, take-splice}
use Rattle.store.specs.declared.Part.{Part}
use Rattle.store.proofs.Parts.{part-long, lent-words, wrote, wrote-anew}
use Rattle.store.specs.Parts.{size_of, stop_of, words_in, count_in, rows_in, Within, Kept, with_rows, Wrote}
use Rattle.list_part.specs.Loose.{row_put, Loose, loose_rows, Standing, Behind}

-- a part put in twice, and one put in where it was
spliced-as : (s : Words) (a b : ℕ) (y : Words) → splice s a b y ≡ take a s ++ (y ++ drop b s)
unfolding splice
spliced-as s a b y = refl

splice-twice : (s : Words) (a b : ℕ) (x y : Words) → a ≤ b → b ≤ length s → length x ≡ b - a → splice (splice s a b x) a b y ≡ splice s a b y
splice-twice s a b x y h l e =
    spliced-as (splice s a b x) a b y
    ∙ ap₂ (λ (f g : Words). f ++ (y ++ g)) (take-splice s a b x h l a (omega arith)) (drop-splice s a b b x h l e (omega arith)) ∙ sym (spliced-as s a b y)

splice-same : (s : Words) (a b : ℕ) → a ≤ b → splice s a b (part s a b) ≡ s
unfolding splice part
splice-same s a b h =
    let e : a + (b - a) ≡ b = omega arith in
    ap (λ (l : Words). take a s ++ (take (b - a) (drop a s) ++ l)) (ap (λ (k : ℕ). drop k s) (sym e) ∙ sym (drop-drop (b - a) a s))
    ∙ ap (λ (l : Words). take a s ++ l) (take-append-drop (b - a) (drop a s)) ∙ take-append-drop a s

pub part_same : (p : Part) (old : Words) → splice old p.start (stop_of p) (words_in p old) ≡ old
unfolding words_in
part_same p old = splice-same old p.start (stop_of p) (omega arith)

wide-append : (w : ℕ) (rows : Rows) (r : Row) → Wide w rows → length r ≡ w → Wide w (rows ++ (r ∷ []))
wide-append w [] r h e = wide-cons w r [] e tt
wide-append w (q ∷ rows) r h e = wide-cons w q (rows ++ (r ∷ [])) (wide-first w q rows h) (wide-append w rows r (wide-rest w q rows h) e)

-- The part's words written anew
module _ (p : Part) (old : Words) (win : Within p old) where
  module _ (x : Words) (long : length x ≡ size_of p) where
    size_is : length x ≡ stop_of p - p.start
    size_is = omega arith

    pub words-anew : words_in p (splice old p.start (stop_of p) x) ≡ x
    unfolding words_in
    words-anew = part-splice old p.start (stop_of p) x (omega arith) win.ends size_is

    pub within-anew : Within p (splice old p.start (stop_of p) x)
    within-anew =
        let Long-as = length-splice old p.start (stop_of p) x (omega arith) win.ends size_is in
        record { counted = win.counted; behind = win.behind; ends = omega (arith, win.ends, Long-as) }

    pub anew-twice : (y : Words) → splice (splice old p.start (stop_of p) x) p.start (stop_of p) y ≡ splice old p.start (stop_of p) y
    anew-twice y = splice-twice old p.start (stop_of p) x y (omega arith) win.ends size_is

    -- whoever writes its rows then has written them into the old store
    pub wrote-over : (rows : Rows) (exit : Words) → Wrote p rows (splice old p.start (stop_of p) x) exit → Wrote p rows old exit
    unfolding with_rows
    wrote-over rows exit w =
        record { words = w.words ∙ ap (λ (y : Words). set y p.slot (length rows)) (anew-twice (laid (size_of p) rows)); long = w.long; held = w.held }

-- a part whose rows stay
pub wrote-same : (p : Part) (old : Words) → Kept p old → Wrote p (rows_in p old) old old
unfolding rows_in
wrote-same p old k =
    subst (Wrote p (rows_in p old) old) (ap (λ (y : Words). set y p.slot (count_in p old)) (part_same p old) ∙ set-get_or old p.slot 0)
    (wrote-anew p old k.within (rows_in p old) (count_in p old) (words_in p old)
    (region-holds p.columns (count_in p old) (words_in p old) k.region) (part-long p old k.within))

-- A part whose rows come one after the other, in any order
pub behind-start : (p : Part) (old : Words) → Kept p old → count_in p old ≤ p.room → Behind p old (rows_in p old) old
unfolding rows_in
behind-start p old k h =
    let is = region-words p.columns (count_in p old) (words_in p old) k.region ∙ ap (λ (n : ℕ). laid n (rows_in p old)) (part-long p old k.within) in
    record {
      words = sym (ap (splice old p.start (stop_of p)) (sym is) ∙ part_same p old);
      wide = wide-cut p.columns (count_in p old) (words_in p old) k.region.fits;
      fits = omega (arith, cut-length p.columns (count_in p old) (words_in p old));
    }

module _ (p : Part) (old : Words) (win : Within p old) (rows : Rows) (ws : Words) (be : Behind p old rows ws) where
  pub behind-long : length (laid (size_of p) rows) ≡ size_of p
  behind-long = laid-long p.columns (size_of p) rows be.wide (mul-le-mul_right p.columns be.fits)

  pub behind-within : Within p ws
  behind-within = subst (Within p) (sym be.words) (within-anew p old win (laid (size_of p) rows) behind-long)

  pub behind-words : words_in p ws ≡ laid (size_of p) rows
  behind-words = ap (words_in p) be.words ∙ words-anew p old win (laid (size_of p) rows) behind-long

  rows_are : loose_rows p (length rows) ws ≡ rows
  unfolding loose_rows
  rows_are = ap (cut p.columns (length rows)) behind-words ∙ laid-cut p.columns (size_of p) rows be.wide

  loose : Loose p (length rows) ws
  loose =
      record {
        within = behind-within;
        fits = be.fits;
        zeros = subst (λ (l : Words). T (all (eqb 0) (drop (length rows * p.columns) l))) (sym behind-words)
            (laid-zeros p.columns (size_of p) rows be.wide);
      }

  -- they stand there, and what is put in their place then stands in the old store
  pub behind-self : Behind p ws rows ws
  behind-self =
      let x = laid (size_of p) rows in
      record {
        words = be.words ∙ sym (anew-twice p old win x behind-long x) ∙ ap (λ (l : Words). splice l p.start (stop_of p) x) (sym be.words);
        wide = be.wide;
        fits = be.fits;
      }

  pub behind-over : (rows' : Rows) (ws' : Words) → Behind p ws rows' ws' → Behind p old rows' ws'
  behind-over rows' ws' over =
      let x = laid (size_of p) rows' in
      record {
        words = over.words ∙ ap (λ (l : Words). splice l p.start (stop_of p) x) be.words ∙ anew-twice p old win (laid (size_of p) rows) behind-long x;
        wide = over.wide;
        fits = over.fits;
      }

  -- counted, they can be settled, and are then written into the old store
  module _ (k : ℕ) (many : k ≡ length rows) where
    pub behind-rows : loose_rows p k ws ≡ rows
    behind-rows = ap (λ (n : ℕ). loose_rows p n ws) many ∙ rows_are

    pub behind-loose : Loose p k ws
    behind-loose = subst (λ (n : ℕ). Loose p n ws) (sym many) loose

    pub behind-settled : (exit : Words) → Wrote p (sorted (loose_rows p k ws)) ws exit → Wrote p (sorted rows) old exit
    behind-settled exit w =
        wrote-over p old win (laid (size_of p) rows) behind-long (sorted rows) exit
        (subst (λ (l : Words). Wrote p (sorted rows) l exit) be.words
        (subst (λ (l : Rows). Wrote p (sorted l) ws exit) behind-rows w))

  -- those that stood there first rise still
  pub behind-stand : (first more : Rows) (stand k : ℕ) → rows ≡ first ++ more → stand ≡ length first → k ≡ length rows → T (rising first)
      → Standing p stand k ws
  unfolding loose_rows
  behind-stand first more stand k e n m up =
      let w = p.columns in
      let l : k ≡ stand + length more = m ∙ ap length e ∙ length-append first more ∙ ap (λ (a : ℕ). a + length more) (sym n) in
      let whole : cut w (stand + length more) (words_in p ws) ≡ first ++ more =
      ap (λ (a : ℕ). cut w a (words_in p ws)) (sym l) ∙ ap (λ (a : ℕ). cut w a (words_in p ws)) m ∙ rows_are ∙ e in
      let is : cut w stand (words_in p ws) ≡ first =
      sym (take-cut w stand (length more) (words_in p ws)) ∙ ap (take stand) whole ∙ take_at first more stand (sym n) in
      record { fits = omega arith; up = subst (λ (l : Rows). T (rising l)) (sym is) up }

  -- one row more
  module _ (r : Row) (wide : length r ≡ p.columns) (l : length rows < p.room) where
    at-end : written (laid (size_of p) rows) (length rows * p.columns) r p.columns ≡ laid (size_of p) (rows ++ (r ∷ []))
    at-end = laid_more p.columns (size_of p) rows be.wide r wide (row_fits p.columns p.room (length rows) (size_of p) l (omega arith))

    pub behind-on : (exit : Words) → exit ≡ row_put p ws (length rows) r → Behind p old (rows ++ (r ∷ [])) exit
    behind-on exit e =
        record {
          words = e ∙ ap₂ (λ (s x : Words). splice s p.start (stop_of p) (written x (length rows * p.columns) r p.columns)) be.words behind-words
              ∙ anew-twice p old win (laid (size_of p) rows) behind-long (written (laid (size_of p) rows) (length rows * p.columns) r p.columns)
              ∙ ap (splice old p.start (stop_of p)) at-end;
          wide = wide-append p.columns rows r be.wide wide;
          fits = omega (arith, length-append rows (r ∷ []));
        }

-- no row needs to stand
pub none-stand : (p : Part) (count : ℕ) (ws : Words) → Standing p 0 count ws
unfolding loose_rows
none-stand p count ws = record { fits = omega arith; up = rw (cut-zero p.columns (words_in p ws)) rising_none }

-- room for that many rows
module _ (p : Part) (ws : Words) (win : Within p ws) where
  pub rows-room : (k : ℕ) → k ≤ p.room → k * p.columns ≤ length (words_in p ws)
  rows-room k l = omega (arith, part-long p ws win, mul-le-mul_right p.columns l)

-- rows put in order: what stands in the part then
pub settled : (p : Part) (count : ℕ) (ws x : Words) → Loose p count ws → {e : ℕ} → e ≡ stop_of p
    → let lent = take (e - p.start) (drop p.start ws) in
    length x ≡ length lent → cut p.columns count x ≡ sorted (cut p.columns count lent) → drop (count * p.columns) x ≡ drop (count * p.columns) lent
    → Wrote p (sorted (loose_rows p count ws)) ws (set (put_mid p.start (e - p.start) ws x) p.slot count)
unfolding loose_rows
settled p count ws x lo end long are behind =
    let same = lent-words p ws end in
    let e = long ∙ ap length same in
    let rows = are ∙ ap (λ (l : Words). sorted (cut p.columns count l)) same in
    let above = behind ∙ ap (drop (count * p.columns)) same in
    let all-rows = sorted (cut p.columns count (words_in p ws)) in
    rw end (wrote p ws lo.within all-rows count x
    (holds p.columns count all-rows x rows
    (record {
      fits = omega (arith, rows-room p ws lo.within count lo.fits);
      up = subst (λ (l : Rows). T (rising l)) (sym rows) (rising-sorted (cut p.columns count (words_in p ws)));
      zeros = subst (λ (l : Words). T (all (eqb 0) l)) (sym above) lo.zeros;
    }))
    e)
