-- Keys: rows with rising keys rise and have no key twice, and rising rows with no key twice have rising keys.
-- Assumes nothing.
use Prim.Native.Nat.{ℕ, ◌<◌, ◌≤◌}
use mathlib.Core.Path.{◌≡◌, refl, sym, ap, ap₂, ◌∙◌, subst}
use mathlib.Core.Bool.{true, not, ◌&&◌}
use mathlib.Core.List.{[], ◌∷◌, map}
use native.Mathlib.Nat.{not-suc-le-zero}
use native.Mathlib.Omega.{arith}
use lib.Dec.{T, ltb, eqb, ltb→lt, lt→ltb}
use lib.ListN.{set}
use lib.Seq.{map-set_same}
use Rattle.lists.specs.Lists.{Mem, all, any, rises}
use Rattle.lists.proofs.Totals.{total-cons, total-set}
use Rattle.lists.proofs.Truth.{F→not, not→F, same_test, and-fst, and-snd, and_both, all-get, all-make, any-get, any-make, mem-map, map-mem}
use Rattle.lists.proofs.Truth.{eq→eqb, eqb→≡}
use Rattle.rows.specs.Rows.{Row, Rows, key, row_order, then_by, is_less, smaller, not_after, rising, put_row, take_row, no_key_twice}
use Rattle.rows.specs.Regions.{keys_rise}
use Rattle.rows.specs.Steps.{key_less}
use Rattle.rows.proofs.Ordered.{word-less, false-after, smaller-once}
use Rattle.rows.proofs.Sorted.{rising-first, rising-rest, rising-cons, rising-put, rising-take, same-rising, total-put, same-take}
use Rattle.rows.proofs.Search.{key-up}
use Rattle.rows.proofs.Ranks.{There}

pub key-smaller : (r s : Row) → key r < key s → smaller r s ≡ true
unfolding smaller row_order then_by is_less
key-smaller r [] h = absurd (not-suc-le-zero h)
key-smaller [] (y ∷ s) h = refl
key-smaller (x ∷ r) (y ∷ s) h = rw (word-less x y h)

up-once : (rows : Rows) → T (keys_rise rows) → T (rising rows && no_key_twice rows)
unfolding keys_rise rising
up-once [] h = tt
up-once (r ∷ rows) h =
    let rest = up-once rows (and-snd (all (key_less r) rows) (keys_rise rows) h) in
    let up = all-make (not_after r) rows (λ s m. false-after r s (smaller-once r s (key-smaller r s (above s m)))) in
    let new = F→not (any (eqb (key r)) (map key rows)) (λ a. none (any-get (eqb (key r)) (map key rows) a)) in
    and_both (rising (r ∷ rows)) (no_key_twice (r ∷ rows)) (rising-cons r rows up (and-fst (rising rows) (no_key_twice rows) rest))
    (and_both (not (any (eqb (key r)) (map key rows))) (no_key_twice rows) new (and-snd (rising rows) (no_key_twice rows) rest))
  where
    first : T (all (key_less r) rows)
    first = and-fst (all (key_less r) rows) (keys_rise rows) h

    above : (s : Row) → Mem s rows → key r < key s
    above s m = ltb→lt (key r) (key s) (all-get (key_less r) rows first s m)

    none : (k : ℕ) × Mem k (map key rows) × T (eqb (key r) k) → ⊥
    none (k, m, e) =
        let p = map-mem key rows k m in
        omega (arith, above p.0 p.1, p.2, eqb→≡ (key r) k e)

once-up : (rows : Rows) → T (rising rows) → T (no_key_twice rows) → T (keys_rise rows)
unfolding keys_rise
once-up [] u h = tt
once-up (r ∷ rows) u h =
    and_both (all (key_less r) rows) (keys_rise rows) (all-make (key_less r) rows above)
    (once-up rows (rising-rest r rows u) (and-snd (not (any (eqb (key r)) (map key rows))) (no_key_twice rows) h))
  where
    new : T (any (eqb (key r)) (map key rows)) → ⊥
    new = not→F (any (eqb (key r)) (map key rows)) (and-fst (not (any (eqb (key r)) (map key rows))) (no_key_twice rows) h)

    above : (s : Row) → Mem s rows → T (key_less r s)
    above s m =
        let le : key r ≤ key s = key-up r s (all-get (not_after r) rows (rising-first r rows u) s m) in
        let ne : key r ≡ key s → ⊥ = λ e. new (any-make (eqb (key r)) (map key rows) (key s) (mem-map key rows s m) (eq→eqb e)) in
        lt→ltb (key r) (key s) (omega arith)

pub keys-rise : (rows : Rows) → keys_rise rows ≡ (rising rows && no_key_twice rows)
keys-rise rows =
    same_test (keys_rise rows) (rising rows && no_key_twice rows) (up-once rows)
    (λ h. once-up rows (and-fst (rising rows) (no_key_twice rows) h) (and-snd (rising rows) (no_key_twice rows) h))

-- A side table's row replaced by one with the same key
keys-numbers : (rows : Rows) → keys_rise rows ≡ rises ltb (map key rows)
unfolding keys_rise rises
keys-numbers [] = refl
keys-numbers (r ∷ rows) = ap₂ ◌&&◌ (each rows) (keys-numbers rows)
  where
    each : (rows : Rows) → all (key_less r) rows ≡ all (ltb (key r)) (map key rows)
    each [] = refl
    each (s ∷ rows) = ap (λ b. ltb (key r) (key s) && b) (each rows)

pub record Replaced (old new : Row) (rows : Rows) (i : ℕ) : Type 0 where
  pub up : T (rising (set rows i new))
  pub once : T (no_key_twice (set rows i new))
  pub is : put_row new (take_row old rows) ≡ set rows i new

pub replace-side : (old new : Row) (rows : Rows) (i : ℕ) → T (rising rows) → T (no_key_twice rows) → There old rows i → key new ≡ key old
    → Replaced old new rows i
replace-side old new rows i u once t e =
    let keys : map key (set rows i new) ≡ map key rows = map-set_same key rows i new [] (e ∙ ap key (sym t.there)) in
    let still : keys_rise rows ≡ keys_rise (set rows i new) = keys-numbers rows ∙ ap (rises ltb) (sym keys) ∙ sym (keys-numbers (set rows i new)) in
    let both : T (rising (set rows i new) && no_key_twice (set rows i new)) = up-once (set rows i new) (subst T still (once-up rows u once)) in
    let up : T (rising (set rows i new)) = and-fst (rising (set rows i new)) (no_key_twice (set rows i new)) both in
    record {
      up = up;
      once = and-snd (rising (set rows i new)) (no_key_twice (set rows i new)) both;
      is =
          same-rising (put_row new (take_row old rows)) (set rows i new) (rising-put new (take_row old rows) (rising-take old rows u)) up (λ f.
          let put = total-put f new (take_row old rows) in
          let out = same-take old rows t.has f ∙ total-cons f old (take_row old rows) in
          let over = total-set [] f rows i new t.below in
          omega (arith, ap f t.there));
    }
