-- Keys among rows: where no key stands twice, which keys are there after a row is put in or taken out, and rows of one width.
-- Assumes nothing.
use Prim.Native.Nat.{ℕ, ◌+◌, ◌<◌, ◌≤◌}
use mathlib.Core.Path.{◌≡◌, refl, sym, ap, ap₂, ◌∙◌, subst}
use mathlib.Core.Bool.{Bool, true, false, cond, not}
use mathlib.Core.List.{List, [], ◌∷◌, map}
use mathlib.Core.Logic.{◌⊎◌, inl, inr, ⊎_elim}
use native.Mathlib.Omega.{arith}
use lib.Dec.{T, eqb, ltb→lt}
use lib.ListN.{length}
use borrow.Author.Tests.{ltb-false}
use Rattle.lists.specs.Lists.{Mem, all, any, select}
use Rattle.lists.specs.Totals.{total, one, Same}
use Rattle.lists.proofs.Truth.{is_t, T→≡, F→≡, F→not, not→F, all-get, all-make, any-get, any-make, any_same}
use Rattle.lists.proofs.Truth.{map-mem, mem-select, eq→eqb, eqb→≡, and-fst, and-snd, and_both, or_cases}
use Rattle.lists.proofs.Totals.{any-total, any_of, all_of}
use Rattle.rows.specs.Rows.{Row, Rows, key, Wide, same_row, put_row, put_rows, sorted, has_row, take_row, take_rows, has_key, no_key_twice}
use Rattle.rows.proofs.Ordered.{same→≡}
use Rattle.rows.proofs.Sorted.{total-put, total-sorted, same-take, same-sorted}
use Rattle.laws.proofs.Lists.{any-map}

-- rows as members
pub has-mem : (r : Row) (rows : Rows) → T (has_row r rows) → Mem r rows
has-mem r rows h =
    let w = any-get (same_row r) rows h in
    subst (λ (x : Row). Mem x rows) (sym (same→≡ r w.0 w.2)) w.1

pub key-mem : (r : Row) (rows : Rows) → Mem r rows → T (has_key (key r) rows)
key-mem r rows m = any-make (λ y. eqb (key r) (key y)) rows r m (eq→eqb {m = key r} refl)

pub take-mem : (r : Row) (rows : Rows) (x : Row) → Mem x (take_row r rows) → Mem x rows
unfolding take_row
take-mem r [] x m = absurd m
take-mem r (y ∷ rows) x m = go (same_row r y) m (λ m. take-mem r rows x m)
  where
    go : (b : Bool) → Mem x (cond b rows (y ∷ take_row r rows)) → (Mem x (take_row r rows) → Mem x rows) → Mem x (y ∷ rows)
    go true m ih = inr m
    go false (inl e) ih = inl e
    go false (inr m) ih = inr (ih m)

pub key-select : (p : Row → Bool) (k : ℕ) (rows : Rows) → T (has_key k (select p rows)) → T (has_key k rows)
key-select p k rows h =
    let w = any-get (λ x. eqb k (key x)) (select p rows) h in
    any-make (λ x. eqb k (key x)) rows w.0 (mem-select p rows w.0 w.1).0 w.2

-- No key twice, taken apart
pub once-first : (r : Row) (rows : Rows) → T (no_key_twice (r ∷ rows)) → T (has_key (key r) rows) → ⊥
once-first r rows o h =
    not→F (any (eqb (key r)) (map key rows)) (and-fst (not (any (eqb (key r)) (map key rows))) (no_key_twice rows) o)
    (subst T (sym (any-map (eqb (key r)) key rows)) h)

pub once-rest : (r : Row) (rows : Rows) → T (no_key_twice (r ∷ rows)) → T (no_key_twice rows)
once-rest r rows o = and-snd (not (any (eqb (key r)) (map key rows))) (no_key_twice rows) o

pub once-cons : (r : Row) (rows : Rows) → (T (has_key (key r) rows) → ⊥) → T (no_key_twice rows) → T (no_key_twice (r ∷ rows))
once-cons r rows h o =
    and_both (not (any (eqb (key r)) (map key rows))) (no_key_twice rows)
    (F→not (any (eqb (key r)) (map key rows)) (λ k. h (subst T (any-map (eqb (key r)) key rows) k))) o

-- how often a key stands
times-key : ℕ → Rows → ℕ
times-key k rows = total (λ r. one (eqb k (key r))) rows

once-count : (rows : Rows) → T (no_key_twice rows) → (k : ℕ) → times-key k rows ≤ 1
unfolding times-key total
once-count [] o k = omega arith
once-count (y ∷ rows) o k = go (eqb k (key y)) refl (once-count rows (once-rest y rows o) k)
  where
    go : (b : Bool) → eqb k (key y) ≡ b → times-key k rows ≤ 1 → one b + times-key k rows ≤ 1
    go true e ih =
        let none : times-key k rows ≤ 0 = ltb-false 0 (times-key k rows) (sym (any-total (λ r. eqb k (key r)) rows)
        ∙ F→≡ (has_key k rows) (λ h. once-first y rows o (subst (λ (j : ℕ). T (has_key j rows)) (eqb→≡ k (key y) (is_t e)) h))) in
        omega arith
    go false e ih = omega arith

count-once : (rows : Rows) → ((k : ℕ) → times-key k rows ≤ 1) → T (no_key_twice rows)
unfolding times-key total
count-once [] h = tt
count-once (y ∷ rows) h =
    once-cons y rows (λ a.
    let p : 0 < times-key (key y) rows = ltb→lt 0 (times-key (key y) rows) (subst T (any-total (λ r. eqb (key y) (key r)) rows) a) in
    let q : one (eqb (key y) (key y)) ≡ 1 = ap one (T→≡ (eqb (key y) (key y)) (eq→eqb {m = key y} refl)) in
    omega (arith, h (key y)))
    (count-once rows (λ k. omega (arith, h k)))

-- it does not matter in which order the rows stand
pub once-same : (xs ys : Rows) → Same xs ys → T (no_key_twice xs) → T (no_key_twice ys)
unfolding times-key
once-same xs ys h o = count-once ys (λ k. subst (λ (n : ℕ). n ≤ 1) (h (λ r. one (eqb k (key r)))) (once-count xs o k))

pub once-sorted : (rows : Rows) → T (no_key_twice rows) → T (no_key_twice (sorted rows))
once-sorted rows o = once-same rows (sorted rows) (λ f. sym (total-sorted f rows)) o

-- rows altered but for their keys, and rows left out
pub once-map : (f : Row → Row) (rows : Rows) → ((r : Row) → Mem r rows → key (f r) ≡ key r) → T (no_key_twice rows) → T (no_key_twice (map f rows))
once-map f [] h o = tt
once-map f (r ∷ rows) h o =
    once-cons (f r) (map f rows) (λ k. once-first r rows o (subst T (any-map (λ x. eqb (key (f r)) (key x)) f rows
    ∙ any_same (λ x. eqb (key (f r)) (key (f x))) (λ x. eqb (key r) (key x)) rows (λ x m. ap₂ eqb (h r (inl refl)) (h x (inr m)))) k))
    (once-map f rows (λ x m. h x (inr m)) (once-rest r rows o))

pub once-select : (p : Row → Bool) (rows : Rows) → T (no_key_twice rows) → T (no_key_twice (select p rows))
once-select p [] o = tt
once-select p (r ∷ rows) o = go (p r) (once-select p rows (once-rest r rows o))
  where
    go : (b : Bool) → T (no_key_twice (select p rows)) → T (no_key_twice (cond b (r ∷ select p rows) (select p rows)))
    go true ih = once-cons r (select p rows) (λ k. once-first r rows o (key-select p (key r) rows k)) ih
    go false ih = ih

pub once-put : (r : Row) (rows : Rows) → (T (has_key (key r) rows) → ⊥) → T (no_key_twice rows) → T (no_key_twice (put_row r rows))
unfolding total
once-put r rows h o = once-same (r ∷ rows) (put_row r rows) (λ f. sym (total-put f r rows)) (once-cons r rows h o)

pub once-take : (r : Row) (rows : Rows) → T (no_key_twice rows) → T (no_key_twice (take_row r rows))
unfolding take_row
once-take r [] o = tt
once-take r (y ∷ rows) o = go (same_row r y) (once-take r rows (once-rest y rows o))
  where
    go : (b : Bool) → T (no_key_twice (take_row r rows)) → T (no_key_twice (cond b rows (y ∷ take_row r rows)))
    go true ih = once-rest y rows o
    go false ih = once-cons y (take_row r rows) (λ h.
        let w = any-get (λ x. eqb (key y) (key x)) (take_row r rows) h in
        once-first y rows o (any-make (λ x. eqb (key y) (key x)) rows w.0 (take-mem r rows w.0 w.1) w.2)) ih

-- without its row a key is gone, and every other is still there
pub key-gone : (r : Row) (rows : Rows) → T (no_key_twice rows) → T (has_row r rows) → T (has_key (key r) (take_row r rows)) → ⊥
key-gone r rows o h = once-first r (take_row r rows) (once-same rows (r ∷ take_row r rows) (same-take r rows h) o)

pub key-stays : (k : ℕ) (r : Row) (rows : Rows) → T (has_row r rows) → (k ≡ key r → ⊥) → T (has_key k rows) → T (has_key k (take_row r rows))
key-stays k r rows h d a =
    ⊎_elim (λ q. absurd (d (eqb→≡ k (key r) q))) (λ q. q)
    (or_cases (eqb k (key r)) (has_key k (take_row r rows)) (subst T (any_of (λ x. eqb k (key x)) rows (r ∷ take_row r rows) (same-take r rows h)) a))

-- two rows with one key are the same row
pub once-row : (rows : Rows) → T (no_key_twice rows) → (x y : Row) → Mem x rows → Mem y rows → key x ≡ key y → x ≡ y
once-row [] o x y m n e = absurd m
once-row (z ∷ rows) o x y m n e = go m n (λ m n. once-row rows (once-rest z rows o) x y m n e)
  where
    first : (w : Row) → Mem w rows → key z ≡ key w → ⊥
    first w i q = once-first z rows o (subst (λ (k : ℕ). T (has_key k rows)) (sym q) (key-mem w rows i))

    go : (x ≡ z) ⊎ Mem x rows → (y ≡ z) ⊎ Mem y rows → (Mem x rows → Mem y rows → x ≡ y) → x ≡ y
    go (inl a) (inl b) ih = a ∙ sym b
    go (inl a) (inr b) ih = absurd (first y b (ap key (sym a) ∙ e))
    go (inr a) (inl b) ih = absurd (first x a (ap key (sym b) ∙ sym e))
    go (inr a) (inr b) ih = ih a b

-- Rows of one width, put in and taken out
pub wide-make : (w : ℕ) (rows : Rows) → ((r : Row) → Mem r rows → length r ≡ w) → Wide w rows
wide-make w rows h = all-make (λ r. eqb (length r) w) rows (λ r m. eq→eqb (h r m))

pub wide-get : (w : ℕ) (rows : Rows) → Wide w rows → (r : Row) → Mem r rows → length r ≡ w
wide-get w rows h r m = eqb→≡ (length r) w (all-get (λ r. eqb (length r) w) rows h r m)

pub wide-map : {A : Type 0} (w : ℕ) (f : A → Row) (xs : List A) → ((x : A) → Mem x xs → length (f x) ≡ w) → Wide w (map f xs)
wide-map w f xs h = wide-make w (map f xs) (λ r m. let k = map-mem f xs r m in ap length k.2 ∙ h k.0 k.1)

pub wide-sorted : (w : ℕ) (rows : Rows) → Wide w rows → Wide w (sorted rows)
wide-sorted w rows h = subst T (sym (all_of (λ r. eqb (length r) w) (sorted rows) rows (same-sorted rows))) h

pub wide-puts : (w : ℕ) (xs rows : Rows) → Wide w xs → Wide w rows → Wide w (put_rows xs rows)
unfolding put_rows total
wide-puts w [] rows h k = k
wide-puts w (x ∷ xs) rows h k =
    subst T (sym (all_of (λ r. eqb (length r) w) (put_row x (put_rows xs rows)) (x ∷ put_rows xs rows) (λ f. total-put f x (put_rows xs rows))))
    (and_both (eqb (length x) w) (all (λ r. eqb (length r) w) (put_rows xs rows)) (and-fst (eqb (length x) w) (all (λ r. eqb (length r) w) xs) h)
    (wide-puts w xs rows (and-snd (eqb (length x) w) (all (λ r. eqb (length r) w) xs) h) k))

pub wide-takes : (w : ℕ) (xs rows : Rows) → Wide w rows → Wide w (take_rows xs rows)
unfolding take_rows
wide-takes w [] rows h = h
wide-takes w (x ∷ xs) rows h =
    wide-takes w xs (take_row x rows) (wide-make w (take_row x rows) (λ r m. wide-get w rows h r (take-mem x rows r m)))
