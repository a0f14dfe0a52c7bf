-- Rising runs of row numbers: which places they mark, where a number stands or would stand, and one number more.
-- Assumes nothing.
use Prim.Native.Nat.{ℕ, zero, suc, ◌+◌, ◌-◌, ◌<◌, ◌≤◌}
use mathlib.Core.Path.{◌≡◌, refl, sym, ap, ap₂, ◌∙◌, subst}
use mathlib.Core.Bool.{Bool, true, false, ◌||◌}
use mathlib.Core.List.{List, [], ◌∷◌, ◌++◌, append_assoc}
use mathlib.Core.Logic.{◌⊎◌, inl, inr}
use native.Mathlib.Nat.{not-suc-le-zero, le_of_suc-le-suc, add-zero}
use native.Mathlib.Numerals.{add-one}
use native.Mathlib.Omega.{arith}
use lib.Dec.{T, ltb, leb, eqb}
use lib.ListN.{length, get_or, set, take, drop, length-append, length-drop, take-append-drop, get_or-append}
use lib.Seq.{get_or-append-add, get_or-take, get_or-drop, length-take-le, set_at, take-suc, take-add, take-take, take_at, drop_at}
use borrow.Author.Tests.{ltb-true, ltb-false, leb-true, leb-false, lt-ltb, le-leb, ne_eqb, eq-eqb}
use Rattle.lists.specs.Lists.{Words, at}
use Rattle.lists.proofs.Truth.{F→≡, mem-get_or, member→Mem, Mem→member}
use Rattle.lists.proofs.Search.{Falls, Bracket}
use Rattle.std.specs.List.Sorted.{IsPartitionPoint, IsPartitionedBy}
use Rattle.rows.specs.Ranks.{Edge}
use Rattle.rows.proofs.Search.{edge_closed}
use Rattle.rows.specs.Words.{raised}
use Rattle.rows.specs.Marks.{is_marked, Numbers, Below, Gap, put_number}
use Rattle.rows.proofs.Ranks.{mem-at}

-- a place is marked exactly if its number stands in the run
pub number-marked : (numbers : Words) (j : ℕ) → j < length numbers → T (is_marked numbers (at numbers j))
unfolding is_marked
number-marked numbers j l = Mem→member (at numbers j) numbers (mem-get_or 0 numbers j l)

pub marked-number : (numbers : Words) (i : ℕ) → T (is_marked numbers i) → (j : ℕ) × (j < length numbers) × (at numbers j ≡ i)
unfolding is_marked
marked-number numbers i h = mem-at 0 i numbers (member→Mem i numbers h)

pub none-marked : (i : ℕ) → is_marked [] i ≡ false
unfolding is_marked
none-marked i = refl

pub marked_append : (xs ys : Words) (i : ℕ) → is_marked (xs ++ ys) i ≡ (is_marked xs i || is_marked ys i)
unfolding is_marked
marked_append [] ys i = refl
marked_append (x ∷ xs) ys i = ap (λ b. eqb i x || b) (marked_append xs ys i) ∙ assoc (eqb i x) (is_marked xs i) (is_marked ys i)
  where
    assoc : (a b c : Bool) → (a || (b || c)) ≡ ((a || b) || c)
    assoc true b c = refl
    assoc false b c = refl

-- an element that is there, whatever stands for one that is not
pub get_or-there : {A : Type 0} (xs : List A) (j : ℕ) (d e : A) → j < length xs → get_or xs j d ≡ get_or xs j e
get_or-there [] j d e l = absurd (not-suc-le-zero l)
get_or-there (x ∷ xs) zero d e l = refl
get_or-there (x ∷ xs) (suc j) d e l = get_or-there xs j d e (le_of_suc-le-suc l)

module _ {n : ℕ} {numbers : Words} (r : Numbers n numbers) where
  rise-by : (d i : ℕ) → i + d < length numbers → at numbers i + d ≤ at numbers (i + d)
  rise-by zero i l = omega (arith, ap (at numbers) (add-zero i))
  rise-by (suc d) i l = omega (arith, rise-by d i (omega arith), r.rise (i + d) (i + suc d) (omega arith) l)

  -- numbers are as far apart as their places, at least
  pub rise-apart : (i j : ℕ) → i ≤ j → j < length numbers → at numbers i + (j - i) ≤ at numbers j
  rise-apart i j h l = let e : i + (j - i) ≡ j = omega arith in omega (arith, rise-by (j - i) i (omega arith), ap (at numbers) e)

  pub number-far : (i : ℕ) → i < length numbers → i ≤ at numbers i
  number-far i l = omega (arith, rise-apart 0 i (omega arith) l)

  pub numbers-few : length numbers ≤ n
  numbers-few = go (ltb n (length numbers)) refl
    where
      go : (b : Bool) → ltb n (length numbers) ≡ b → length numbers ≤ n
      go true e = let l = ltb-true n (length numbers) e in absurd (omega (arith, number-far n l, r.below n l))
      go false e = ltb-false n (length numbers) e

  -- number j, or n behind the end: no number stands between those before it and it
  pub next-there : (j : ℕ) → j < length numbers → get_or numbers j n ≡ at numbers j
  next-there j l = get_or-there numbers j n 0 l

  pub not-between : (j m : ℕ) → ((i : ℕ) → i < j → at numbers i < m) → m < get_or numbers j n → is_marked numbers m ≡ false
  not-between j m under l = F→≡ (is_marked numbers m) (λ h. let p = marked-number numbers m h in go p.0 p.1 p.2 (ltb p.0 j) refl)
    where
      go : (i : ℕ) → i < length numbers → at numbers i ≡ m → (b : Bool) → ltb i j ≡ b → ⊥
      go i h e true g = omega (arith, under i (ltb-true i j g))
      go i h e false g =
          let k = ltb-false i j g in
          omega (arith, rise-apart j i k h, next-there j (omega arith))

  -- The numbers below x come first: how many they are, as std's search for them answers
  pub below-parted : (x : ℕ) → IsPartitionedBy (λ m. ltb m x) numbers
  below-parted x i j d h l e =
      lt-ltb (get_or numbers i d) x (omega (
        arith,
        ltb-true (get_or numbers j d) x e,
        rise-apart i j h l,
        get_or-there numbers i d 0 (omega arith),
        get_or-there numbers j d 0 l,
      ))

  pub below-is : (x k : ℕ) → k ≤ length numbers → IsPartitionPoint (λ m. ltb m x ≡ true) (λ m. ltb m x ≡ false) numbers k → Below numbers x k
  below-is x k h point =
      record {
        inside = h;
        under = λ i l. ltb-true (at numbers i) x (point.0 i 0 (omega arith) l);
        over = λ i g l. ltb-false (at numbers i) x (point.1 i 0 g l);
      }

  -- The stretch that begins with `first` at its place ends where a number is greater than what would go on with it
  module _ (first before : ℕ) (be : Below numbers first before) where
    unfoldable goes-on : ℕ → Bool
    goes-on i = leb (at numbers (before + i)) (first + i)

    goes-on-falls : Falls goes-on (length numbers - before)
    unfolding goes-on
    goes-on-falls i j h l e = le-leb (at numbers (before + i)) (first + i) (omega (
      arith,
      leb-true (at numbers (before + j)) (first + j) e,
      rise-apart (before + i) (before + j) (omega arith) (omega arith),
    ))

    pub stretch-gap : {answers : ℕ → Bool → Type 0} (k : ℕ) → Edge answers (length numbers - before) k
        → ((i : ℕ) (b : Bool) → i < length numbers - before → answers i b → b ≡ leb (at numbers (before + i)) (first + i))
        → Gap numbers first (first + k) (before + k)
    unfolding goes-on
    stretch-gap k e says =
        record {
          inside = omega (arith, b.high, be.inside);
          above = omega arith;
          taken = λ i g l. marks i (before + (i - first)) g refl (omega (arith, b.high, be.inside)) (leb-true _ _ (b.below (i - first) (omega arith)));
          under = λ i l. low i (ltb i before) refl l;
          over = λ i g l. let same : before + (i - before) ≡ i = omega arith in
              omega (arith, ap (at numbers) same, leb-false _ _ (b.above (i - before) (omega arith) (omega arith)));
        }
      where
        b : Bracket (λ i. leb (at numbers (before + i)) (first + i)) (length numbers - before) k k
        b = edge_closed goes-on (length numbers - before) k goes-on-falls e says

        marks : (i q : ℕ) → first ≤ i → q ≡ before + (i - first) → q < length numbers → at numbers q ≤ first + (i - first) → T (is_marked numbers i)
        marks i q g e l reach =
            let is : at numbers q ≡ i = omega (arith, be.over before (omega arith) (omega arith), rise-apart before q (omega arith) l) in
            subst (λ (m : ℕ). T (is_marked numbers m)) is (number-marked numbers q l)

        low : (i : ℕ) (c : Bool) → ltb i before ≡ c → i < before + k → at numbers i < first + k
        low i true e l = omega (arith, be.under i (ltb-true i before e))
        low i false e l =
            let h = ltb-false i before e in
            let same : before + (i - before) ≡ i = omega arith in
            omega (arith, ap (at numbers) same, leb-true _ _ (b.below (i - before) (omega arith)))

-- Runs: none, of more rows, one behind another, with a greater number at the end
pub numbers-none : (n : ℕ) → Numbers n []
numbers-none n = record { rise = λ i j l h. absurd (omega arith); below = λ i h. absurd (omega arith) }

pub numbers-of-more : (n k : ℕ) (numbers : Words) → Numbers n numbers → n ≤ k → Numbers k numbers
numbers-of-more n k numbers r h = record { rise = r.rise; below = λ i l. omega (arith, r.below i l) }

numbers-one : (n x : ℕ) → x < n → Numbers n (x ∷ [])
numbers-one n x h = record { rise = λ i j l g. absurd (omega arith); below = λ i l. only i l }
  where
    only : (i : ℕ) → i < 1 → at (x ∷ []) i < n
    only zero l = h
    only (suc i) l = absurd (omega arith)

module _ (m n : ℕ) (xs ys : Words) (r : Numbers m xs) (q : Numbers n ys) (h : m ≤ n) (above : (i : ℕ) → i < length ys → m ≤ at ys i) where
  -- number j stands in the first run or in the second
  abbrev Read : ℕ → Type 0
  Read j = ((j < length xs) × (at (xs ++ ys) j ≡ at xs j)) ⊎ ((length xs ≤ j) × (j - length xs < length ys) × (at (xs ++ ys) j ≡ at ys (j - length xs)))

  read : (j : ℕ) → j < length (xs ++ ys) → Read j
  read j l = go (ltb j (length xs)) refl
    where
      go : (b : Bool) → ltb j (length xs) ≡ b → Read j
      go true e = let k = ltb-true j (length xs) e in inl (k, get_or-append xs ys 0 j k)
      go false e =
          let k = ltb-false j (length xs) e in
          let p : length xs + (j - length xs) ≡ j = omega arith in
          inr (k, omega (arith, length-append xs ys), ap (at (xs ++ ys)) (sym p) ∙ get_or-append-add xs ys (j - length xs) 0)

  pub numbers-append : Numbers n (xs ++ ys)
  numbers-append = record { rise = λ i j l g. up i j l (read i (omega arith)) (read j g); below = λ i g. under i (read i g) }
    where
      up : (i j : ℕ) → i < j → Read i → Read j → at (xs ++ ys) i < at (xs ++ ys) j
      up i j l (inl a) (inl b) = omega (arith, a.1, b.1, r.rise i j l b.0)
      up i j l (inl a) (inr b) = omega (arith, a.1, b.2, r.below i a.0, above (j - length xs) b.1)
      up i j l (inr a) (inl b) = absurd (omega (arith, a.0, b.0))
      up i j l (inr a) (inr b) = omega (arith, a.2, b.2, q.rise (i - length xs) (j - length xs) (omega (arith, a.0)) b.1)

      under : (i : ℕ) → Read i → at (xs ++ ys) i < n
      under i (inl a) = omega (arith, a.1, r.below i a.0)
      under i (inr a) = omega (arith, a.2, q.below (i - length xs) a.1)

-- One number more, in its gap
module _ (n : ℕ) (numbers : Words) (r : Numbers n numbers) (first x k : ℕ) (g : Gap numbers first x k) where
  front : Numbers x (take k numbers)
  front =
      let long = length-take-le k numbers g.inside in
      record {
        rise = λ i j l h. omega (
          arith,
          get_or-take k numbers i 0 (omega arith),
          get_or-take k numbers j 0 (omega arith),
          r.rise i j l (omega (arith, g.inside)),
        );
        below = λ i h. omega (arith, get_or-take k numbers i 0 (omega arith), g.under i (omega arith));
      }

  back : Numbers n (drop k numbers)
  back =
      let long = length-drop k numbers in
      record {
        rise = λ i j l h. omega (arith, get_or-drop k numbers i 0, get_or-drop k numbers j 0, r.rise (k + i) (k + j) (omega arith) (omega arith));
        below = λ i h. omega (arith, get_or-drop k numbers i 0, r.below (k + i) (omega arith));
      }

  pub numbers-put : x < n → Numbers n (put_number k x numbers)
  unfolding put_number
  numbers-put l =
      let over : (i : ℕ) → i < length (drop k numbers) → suc x ≤ at (drop k numbers) i =
      (λ i h. omega (arith, get_or-drop k numbers i 0, length-drop k numbers, g.over (k + i) (omega arith) (omega (arith, length-drop k numbers)))) in
      numbers-append x n (take k numbers) (x ∷ drop k numbers) front
      (numbers-append (suc x) n (x ∷ []) (drop k numbers) (numbers-one (suc x) x (omega arith)) back l over) (omega arith)
      (λ i h. least i h)
    where
      least : (i : ℕ) → i < length (x ∷ drop k numbers) → x ≤ at (x ∷ drop k numbers) i
      least zero h = omega arith
      least (suc i) h = omega (arith, get_or-drop k numbers i 0, length-drop k numbers, g.over (k + i) (omega arith) (omega (arith, length-drop k numbers)))

  -- so there was room for it
  pub put-room : x < n → length numbers < n
  unfolding put_number
  put-room l =
      omega (
        arith,
        numbers-few (numbers-put l),
        length-append (take k numbers) (x ∷ drop k numbers),
        length-take-le k numbers g.inside,
        length-drop k numbers,
        g.inside,
      )

  -- it is not marked before
  pub put-not : is_marked numbers x ≡ false
  put-not = F→≡ (is_marked numbers x) (λ h. let p = marked-number numbers x h in go p.0 p.1 p.2 (ltb p.0 k) refl)
    where
      go : (i : ℕ) → i < length numbers → at numbers i ≡ x → (b : Bool) → ltb i k ≡ b → ⊥
      go i h e true q = omega (arith, g.under i (ltb-true i k q))
      go i h e false q = omega (arith, g.over i (ltb-false i k q) h)

-- it is marked then, as are the others that were
put-marks : (k x : ℕ) (numbers : Words) (i : ℕ) → is_marked (put_number k x numbers) i
    ≡ (is_marked (take k numbers) i || (eqb i x || is_marked (drop k numbers) i))
unfolding put_number is_marked
put-marks k x numbers i = marked_append (take k numbers) (x ∷ drop k numbers) i

pub put-here : (k x : ℕ) (numbers : Words) → is_marked (put_number k x numbers) x ≡ true
put-here k x numbers = put-marks k x numbers x ∙ rw (eq-eqb x x refl) (or-true (is_marked (take k numbers) x))
  where
    or-true : (b : Bool) → (b || true) ≡ true
    or-true true = refl
    or-true false = refl

pub put-others : (k x : ℕ) (numbers : Words) (i : ℕ) → (i ≡ x → ⊥) → is_marked (put_number k x numbers) i ≡ is_marked numbers i
put-others k x numbers i d =
    put-marks k x numbers i ∙ rw (ne_eqb i x d) (sym (marked_append (take k numbers) (drop k numbers) i))
    ∙ ap (λ (m : Words). is_marked m i) (take-append-drop k numbers)

-- the numbers from k on put one up, and x over number k
pub put_written : (s y : Words) (many k i x : ℕ) → k ≤ many → many < length s → i ≡ k → y ≡ raised s i many 1
    → take (many + 1) (set y k x) ≡ put_number k x (take many s)
unfolding put_number raised
put_written s y many k i x h l ei ey =
    let moved : Words = take (many - k) (drop k s) in
    let moved-long : length moved ≡ many - k = length-take-le (many - k) (drop k s) (omega (arith, length-drop k s)) in
    let front_long : length (take k s) ≡ k = length-take-le k s (omega arith) in
    let rest : Words = moved ++ drop (many + 1) s in
    let e : y ≡ take k s ++ (at s k ∷ rest) = ey ∙ rw (ei, add-one k, take-suc s k 0 (omega arith), append_assoc) in
    let new : Words = take k s ++ (x ∷ moved) in
    let whole : set y k x ≡ new ++ drop (many + 1) s =
    rw (e, set_at (take k s) (at s k) rest x k front_long) (sym (append_assoc (take k s) (x ∷ moved) (drop (many + 1) s))) in
    let long : length new ≡ many + 1 = length-append (take k s) (x ∷ moved) ∙ omega (arith, front_long, moved-long) in
    let p : k + (many - k) ≡ many = omega arith in
    let run : take many s ≡ take k s ++ moved = ap (λ (m : ℕ). take m s) (sym p) ∙ take-add k (many - k) s in
    ap (take (many + 1)) whole ∙ take_at new (drop (many + 1) s) (many + 1) long
    ∙ sym (ap₂ (λ (a b : Words). a ++ (x ∷ b)) (take-take k many s h) (ap (drop k) run ∙ drop_at (take k s) moved k front_long))
