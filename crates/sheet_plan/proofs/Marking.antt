-- Places marked one after the other: which are marked then; and that the keys, the child columns and the listed columns are what side tables show.
-- Assumes nothing.
use Prim.Native.Nat.{ℕ, zero, suc, ◌+◌, ◌*◌, ◌/◌, ◌%◌, ◌<◌, ◌≤◌}
use mathlib.Core.Path.{◌≡◌, refl, sym, ap, subst, ◌∙◌}
use mathlib.Core.Bool.{Bool, true, false, ◌&&◌, ◌||◌}
use mathlib.Core.List.{List}
use mathlib.Core.Logic.{⊎_elim}
use native.Mathlib.Numerals.{add-one}
use native.Mathlib.Nat.{le_antisymm}
use native.Mathlib.Omega.{arith}
use lib.Dec.{T, eqb, ltb}
use lib.ListN.{length, get_or, set, replicate, length-set, length-replicate, get_or-replicate}
use lib.Seq.{get_or-set_same, get_or-set_other, ext_get_or}
use borrow.Author.Tests.{eqb-true, eqb-false, lt-ltb, ltb-true}
use Rattle.lists.specs.Lists.{Words}
use Rattle.lists.specs.Totals.{one}
use Rattle.lists.specs.Loops.{some, first}
use Rattle.lists.proofs.Truth.{is_t, T→≡, same_test, or_inl, or_inr, or_cases, and-fst, and-snd, and_both, eq→eqb, eqb→≡}
use Rattle.lists.proofs.Loops.{some-hit, length-filled, get_or-filled}
use Rattle.meaning.specs.Sheet.{sheet_of, has_column, width, table_count, edge_count, listed_count}
use Rattle.meaning.specs.Plan.{is_shown}
use Rattle.sheet.specs.Numbered.{edge_no, listing_no}
use Rattle.sheet.specs.Rules.{Column, Rules}
use Rattle.sheet.specs.Tests.{listing_names}
use Rattle.sheet.proofs.Numbers.{first_passes}
use Rattle.sheet.proofs.Words.{n-is, width_is}
use Rattle.derive.specs.Derived.{leaves_by, shown_no}
use Rattle.derive.proofs.Steps.{shown-is, listed-is}
use Rattle.sheet_plan.specs.Marked.{marked_by, key_place, edge_place, listing_place}
use Rattle.sheet_plan.specs.Plans.{shows_at, shows_of}
use Rattle.sheet_plan.proofs.Shown.{has-column}

-- a loop that marks: a turn, and the end
module _ (f : ℕ → ℕ) (m : List ℕ) where
  pub marked_more : (k p : ℕ) (a b : List ℕ) → a ≡ marked_by f k m → p ≡ f k → b ≡ set a p 1 → b ≡ marked_by f (k + 1) m
  unfolding marked_by
  marked_more k p a b e q z = z ∙ rw (add-one, e, q)

  pub marked-end : (k n : ℕ) (a : List ℕ) → k ≤ n → n ≤ k → a ≡ marked_by f k m → a ≡ marked_by f n m
  marked-end k n a h l e = e ∙ ap (λ (j : ℕ). marked_by f j m) (le_antisymm h l)

  pub length_marked : (n : ℕ) → length (marked_by f n m) ≡ length m
  unfolding marked_by
  length_marked zero = refl
  length_marked (suc n) = length-set (marked_by f n m) (f n) 1 ∙ length_marked n

  -- marked is what was marked, and each of the places
  marked-at : (n i : ℕ) (b : Bool) → i < length m → get_or m i 0 ≡ one b → get_or (marked_by f n m) i 0 ≡ one (b || some (λ k. eqb (f k) i) n)
  unfolding marked_by some
  marked-at zero i b l h = h ∙ ap one (sym (or-false b))
    where
      or-false : (b : Bool) → (b || false) ≡ b
      or-false true = refl
      or-false false = refl
  marked-at (suc n) i b l h = go (eqb (f n) i) refl (some (λ k. eqb (f k) i) n) (marked-at n i b l h)
    where
      hit : (b s : Bool) → 1 ≡ one (b || (s || true))
      hit true s = refl
      hit false true = refl
      hit false false = refl

      miss : (b s : Bool) → one (b || s) ≡ one (b || (s || false))
      miss true s = refl
      miss false true = refl
      miss false false = refl

      go : (d : Bool) → eqb (f n) i ≡ d → (s : Bool) → get_or (marked_by f n m) i 0 ≡ one (b || s)
          → get_or (set (marked_by f n m) (f n) 1) i 0 ≡ one (b || (s || d))
      go true e s ih =
          let q = eqb-true (f n) i e in
          ap (λ (j : ℕ). get_or (set (marked_by f n m) j 1) i 0) q
          ∙ get_or-set_same (marked_by f n m) i 1 0 (omega (arith, length_marked n)) ∙ hit b s
      go false e s ih =
          let q = eqb-false (f n) i e in
          get_or-set_other (marked_by f n m) (f n) i 1 0 (λ z. q (sym z)) ∙ ih ∙ miss b s

some-get : (p : ℕ → Bool) (n : ℕ) → T (some p n) → (k : ℕ) × (k < n) × T (p k)
some-get p n h = let x = first_passes p n (T→≡ (some p n) h) in (first p n, x.0, is_t x.1)

some-make : (p : ℕ → Bool) (n k : ℕ) → k < n → T (p k) → T (some p n)
some-make p n k l h = is_t (some-hit p k n l (T→≡ (p k) h))

-- two numbers, each as it should be
same-both : (a b c d : ℕ) → a ≡ b → c ≡ d → T (eqb a b && eqb c d)
same-both a b c d p q = and_both (eqb a b) (eqb c d) (eq→eqb p) (eq→eqb q)

both-same : (a b c d : ℕ) → T (eqb a b && eqb c d) → (a ≡ b) × (c ≡ d)
both-same a b c d h = (eqb→≡ a b (and-fst (eqb a b) (eqb c d) h), eqb→≡ c d (and-snd (eqb a b) (eqb c d) h))

-- the columns of edges and listings, as they are read
narrow : (ws : Words) → Rules ws → (t c : ℕ) → Column ws t c → (t < 8) × (c < 8)
narrow ws r t c h = (omega (arith, h.table, r.counts.tables-few), omega (arith, h.within, (r.widths t h.table).high))

module _ (ws : Words) (r : Rules ws) (i : ℕ) where
  -- place i is that of a column that is there, and that is shown
  abbrev is_key : Bool
  is_key = some (λ t. eqb (key_place t) i) (table_count ws)

  abbrev is_child : Bool
  is_child = some (λ k. eqb (edge_place ws k) i) (edge_count ws)

  abbrev is_on_list : Bool
  is_on_list = some (λ k. eqb (listing_place ws k) i) (listed_count ws)

  abbrev there : Bool
  there = has_column (sheet_of ws) (i / 8) (i % 8)

  abbrev leaving : Bool
  leaving = some (leaves_by ws (i / 8) (i % 8)) (edge_count ws)

  abbrev listing : Bool
  listing = some (listing_names ws (i / 8) (i % 8)) (listed_count ws)

  -- the column at place i
  column-there : (t c : ℕ) → Column ws t c → 8 * t + c ≡ i → T there × ((t ≡ i / 8) × (c ≡ i % 8))
  column-there t c h e =
      let n = narrow ws r t c h in
      let a : t ≡ i / 8 = omega (arith, n.1) in
      let b : c ≡ i % 8 = omega (arith, n.1) in (
        subst (λ (u : ℕ). T (has_column (sheet_of ws) u (i % 8))) a
            (subst (λ (d : ℕ). T (has_column (sheet_of ws) t d)) b
            (is_t (has-column ws r t c ∙ lt-ltb c (width (sheet_of ws) t) (omega (arith, h.within, width_is ws t h.table))))),
        (a, b),
      )

  of-key : T is_key → T (there && (eqb (i % 8) 0 || leaving || listing))
  unfolding key_place
  of-key h =
      let x = some-get (λ t. eqb (key_place t) i) (table_count ws) h in
      let e = eqb→≡ (8 * x.0 + 0) i x.2 in
      let y = column-there x.0 0 (record { table = x.1; within = (r.widths x.0 x.1).low }) e in
      and_both there (eqb (i % 8) 0 || leaving || listing) y.0
      (or_inl (eqb (i % 8) 0 || leaving) listing (or_inl (eqb (i % 8) 0) leaving (eq→eqb (sym y.1.1))))

  of-edge : T is_child → T (there && (eqb (i % 8) 0 || leaving || listing))
  unfolding edge_place leaves_by
  of-edge h =
      let x = some-get (λ k. eqb (edge_place ws k) i) (edge_count ws) h in
      let y = column-there _ _ (r.edges x.0 x.1).there (eqb→≡ _ _ x.2) in
      and_both there (eqb (i % 8) 0 || leaving || listing) y.0
      (or_inl (eqb (i % 8) 0 || leaving) listing (or_inr (eqb (i % 8) 0) leaving
      (some-make (leaves_by ws (i / 8) (i % 8)) (edge_count ws) x.0 x.1
      (same-both (edge_no ws x.0).child (i / 8) (edge_no ws x.0).column (i % 8) y.1.0 y.1.1))))

  of-listing : T is_on_list → T (there && (eqb (i % 8) 0 || leaving || listing))
  unfolding listing_place listing_names
  of-listing h =
      let x = some-get (λ k. eqb (listing_place ws k) i) (listed_count ws) h in
      let y = column-there _ _ (r.listings x.0 x.1).there (eqb→≡ _ _ x.2) in
      and_both there (eqb (i % 8) 0 || leaving || listing) y.0
      (or_inr (eqb (i % 8) 0 || leaving) listing
      (some-make (listing_names ws (i / 8) (i % 8)) (listed_count ws) x.0 x.1
      (same-both (listing_no ws x.0).table (i / 8) (listing_no ws x.0).column (i % 8) y.1.0 y.1.1)))

  to-key : T there → T (eqb (i % 8) 0) → T is_key
  unfolding key_place
  to-key h z =
      let t = ltb-true (i / 8) (sheet_of ws).n (T→≡ _ (and-fst (ltb (i / 8) (sheet_of ws).n) (ltb (i % 8) (width (sheet_of ws) (i / 8))) h)) in
      let c = eqb→≡ (i % 8) 0 z in
      let e : 8 * (i / 8) + 0 ≡ i = omega arith in
      some-make (λ t. eqb (key_place t) i) (table_count ws) (i / 8) (omega (arith, n-is ws)) (eq→eqb e)

  to-edge : T leaving → T is_child
  unfolding edge_place leaves_by
  to-edge h =
      let x = some-get (leaves_by ws (i / 8) (i % 8)) (edge_count ws) h in
      let y = both-same (edge_no ws x.0).child (i / 8) (edge_no ws x.0).column (i % 8) x.2 in
      let e : 8 * (edge_no ws x.0).child + (edge_no ws x.0).column ≡ i = omega (arith, y.0, y.1) in
      some-make (λ k. eqb (edge_place ws k) i) (edge_count ws) x.0 x.1 (eq→eqb e)

  to-listing : T listing → T is_on_list
  unfolding listing_place listing_names
  to-listing h =
      let x = some-get (listing_names ws (i / 8) (i % 8)) (listed_count ws) h in
      let y = both-same (listing_no ws x.0).table (i / 8) (listing_no ws x.0).column (i % 8) x.2 in
      let e : 8 * (listing_no ws x.0).table + (listing_no ws x.0).column ≡ i = omega (arith, y.0, y.1) in
      some-make (λ k. eqb (listing_place ws k) i) (listed_count ws) x.0 x.1 (eq→eqb e)

  marks-are : (is_key || is_child || is_on_list) ≡ (there && is_shown (sheet_of ws) (i / 8) (i % 8))
  unfolding shown_no
  marks-are =
      same_test (is_key || is_child || is_on_list) (there && (eqb (i % 8) 0 || leaving || listing))
      (λ h. ⊎_elim (λ h. ⊎_elim of-key of-edge (or_cases is_key is_child h)) of-listing (or_cases (is_key || is_child) is_on_list h))
      (λ h. let a = and-fst there (eqb (i % 8) 0 || leaving || listing) h in
      ⊎_elim
      (λ h. or_inl (is_key || is_child) is_on_list
      (⊎_elim (λ z. or_inl is_key is_child (to-key a z)) (λ z. or_inr is_key is_child (to-edge z)) (or_cases (eqb (i % 8) 0) leaving h)))
      (λ h. or_inr (is_key || is_child) is_on_list (to-listing h))
      (or_cases (eqb (i % 8) 0 || leaving) listing (and-snd there (eqb (i % 8) 0 || leaving || listing) h)))
      ∙ ap (λ (b : Bool). there && b)
      (ap (λ (b : Bool). eqb (i % 8) 0 || leaving || b) (sym (listed-is ws (i / 8) (i % 8))) ∙ sym (shown-is ws (i / 8) (i % 8)))

-- all three marked in an array of zeros
pub shows-made : (ws : Words) → Rules ws → (a b c : List ℕ) → a ≡ marked_by key_place (table_count ws) (replicate 64 0)
    → b ≡ marked_by (edge_place ws) (edge_count ws) a → c ≡ marked_by (listing_place ws) (listed_count ws) b → c ≡ shows_of (sheet_of ws)
unfolding shows_of shows_at
shows-made ws r a b c p q s =
    ext_get_or 0 c (shows_of (sheet_of ws)) (long ∙ sym (length-filled (shows_at (sheet_of ws)) 64 (replicate 64 0)))
    (λ i l. let k : i < 64 = omega (arith, long) in
    ap (λ (m : List ℕ). get_or m i 0) s
    ∙ marked-at (listing_place ws) b (listed_count ws) i (is_key ws r i || is_child ws r i) (omega (arith, long-b))
    (ap (λ (m : List ℕ). get_or m i 0) q ∙ marked-at (edge_place ws) a (edge_count ws) i (is_key ws r i) (omega (arith, long-a))
    (ap (λ (m : List ℕ). get_or m i 0) p
    ∙ marked-at key_place (replicate 64 0) (table_count ws) i false (omega (arith, long-0)) (get_or-replicate 64 i 0 0 k)))
    ∙ ap one (marks-are ws r i) ∙ sym (get_or-filled (shows_at (sheet_of ws)) 64 i 0 (replicate 64 0) k (omega (arith, long-0))))
  where
    long-0 : length (replicate {A = ℕ} 64 0) ≡ 64
    long-0 = length-replicate {A = ℕ} 64 0

    long-a : length a ≡ 64
    long-a = ap length p ∙ length_marked key_place (replicate 64 0) (table_count ws) ∙ long-0

    long-b : length b ≡ 64
    long-b = ap length q ∙ length_marked (edge_place ws) a (edge_count ws) ∙ long-a

    long : length c ≡ 64
    long = ap length s ∙ length_marked (listing_place ws) b (listed_count ws) ∙ long-b
