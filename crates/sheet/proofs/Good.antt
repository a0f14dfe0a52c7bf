-- What a verdict says of the words, and the ways through `tree_ok` and `verdict_of`.
-- Assumes nothing.
use Prim.Native.Nat.{ℕ, ◌-◌}
use mathlib.Core.Path.{◌≡◌, refl, sym, ap, ap₂, ◌∙◌}
use mathlib.Core.Bool.{Bool, true, false, cond, ◌&&◌}
use native.Mathlib.Omega.{arith}
use lib.Dec.{eqb, leb}
use lib.ListN.{length}
use borrow.Author.Tests.{eqb-true}
use Rattle.lists.specs.Lists.{Words, at, Mem, all, select, up_to}
use Rattle.lists.specs.Loops.{every}
use Rattle.lists.proofs.Loops.{and-true}
use Rattle.lists.proofs.Truth.{is_t, T→≡, mem-select, select-mem, mem-get_or, mem-up_to, up_to-mem}
use Rattle.meaning.specs.Plan.{root}
use mathlib.Core.List.{List, [], ◌∷◌}
use mathlib.Core.Logic.{inl, inr}
use Rattle.meaning.specs.Answers.{unless}
use Rattle.meaning.specs.Sheet.{Sheet, sheet_of, edges_into, is_root, reached, good_counts, good_words, good_tree, sheet_refusal, table_count, edge_count}
use Rattle.sheet.specs.Counted.{counted}
use Rattle.sheet.specs.Rules.{Rules}
use Rattle.sheet.proofs.Numbers.{all-up_to, length-up_to}
use Rattle.sheet.proofs.Words.{n-is}
use Rattle.sheet.proofs.Facts.{counts-facts, rules}
use Rattle.sheet.specs.Tree.{one_into, root_no, reached_no, GoodSheet}
use Rattle.std.specs.Prelude.{Result, Ok, Err, ⊤}
use Rattle.sheet.specs.declared.refusal.Refusal.{Refusal}
use Rattle.sheet.specs.declared.refusal.Refusal.TheVariants.{BadCounts, BadWords, NoTree}
use Rattle.sheet.specs.Refusals.{refusal_number, refusal_of, number_of}
use Rattle.sheet.specs.Verdicts.{verdict_of}
use Rattle.sheet.proofs.Into.{joined}

-- all of refusal 3, by number
pub tree-are : (ws : Words) → Rules ws → good_tree (sheet_of ws)
    ≡ (eqb (counted (root_no ws) (table_count ws)) 1 && every (one_into ws) (table_count ws) && every (reached_no ws (edge_count ws)) (table_count ws))
unfolding good_tree root_no one_into reached_no
tree-are ws r =
    ap₂ ◌&&◌
    (ap₂ ◌&&◌ (ap (λ (n : ℕ). eqb (length (select (is_root s) (up_to n))) 1) (n-is ws) ∙ ap (λ (k : ℕ). eqb k 1) (length-up_to (is_root s) (table_count ws)))
    (ap (λ (n : ℕ). all one (up_to n)) (n-is ws) ∙ all-up_to one (table_count ws)))
    (ap₂ (λ (k n : ℕ). all (reached s k) (up_to n)) last (n-is ws) ∙ all-up_to (reached s (edge_count ws)) (table_count ws))
  where
    s : Sheet
    s = sheet_of ws

    one : ℕ → Bool
    one t = leb (length (edges_into s t)) 1

    last : s.n - 1 ≡ edge_count ws
    last = omega (arith, n-is ws, r.counts.edges-right)

module _ (ws : Words) where
  pub refused-counts : good_counts ws ≡ false → Err BadCounts ≡ verdict_of ws
  unfolding verdict_of sheet_refusal
  refused-counts a = rw a

  pub refused-words : good_counts ws ≡ true → good_words (sheet_of ws) ≡ false → Err BadWords ≡ verdict_of ws
  unfolding verdict_of sheet_refusal
  refused-words a b = rw (a, b)

  pub refused-tree : good_counts ws ≡ true → good_words (sheet_of ws) ≡ true → good_tree (sheet_of ws) ≡ false → Err NoTree ≡ verdict_of ws
  unfolding verdict_of sheet_refusal
  refused-tree a b c = rw (a, b, c)

  pub passed : good_counts ws ≡ true → good_words (sheet_of ws) ≡ true → good_tree (sheet_of ws) ≡ true → Ok tt ≡ verdict_of ws
  unfolding verdict_of sheet_refusal
  passed a b c = rw (a, b, c)

  -- a verdict's number is the refusal's, and 0 if the sheet is good
  pub number_is : number_of (verdict_of ws) ≡ sheet_refusal ws
  unfolding verdict_of sheet_refusal
  number_is = go (good_counts ws) (good_words (sheet_of ws)) (good_tree (sheet_of ws))
    where
      go : (a b c : Bool)
          → let k = unless a 1 (unless b 2 (unless c 3 0)) in
          number_of (cond {A = Result ⊤ Refusal} (eqb k 0) (Ok tt) (Err (refusal_of k))) ≡ k
      go true true true = refl
      go true true false = refl
      go true false c = refl
      go false b c = refl

  pub good-zero : (x : ⊤) → verdict_of ws ≡ Ok x → sheet_refusal ws ≡ 0
  good-zero x h = sym number_is ∙ ap number_of h

  pub zero-good : sheet_refusal ws ≡ 0 → verdict_of ws ≡ Ok tt
  unfolding verdict_of
  zero-good h = rw h

  pub refused-is : (r : Refusal) → verdict_of ws ≡ Err r → sheet_refusal ws ≡ refusal_number r
  refused-is r h = sym number_is ∙ ap number_of h

  -- the three tests that a good sheet passes
  pub good-tests : sheet_refusal ws ≡ 0 → (good_counts ws ≡ true) × ((good_words (sheet_of ws) ≡ true) × (good_tree (sheet_of ws) ≡ true))
  unfolding sheet_refusal
  good-tests h = go (good_counts ws) (good_words (sheet_of ws)) (good_tree (sheet_of ws)) h
    where
      go : (a b c : Bool) → unless a 1 (unless b 2 (unless c 3 0)) ≡ 0 → (a ≡ true) × ((b ≡ true) × (c ≡ true))
      go true true true e = (refl, (refl, refl))
      go true true false e = absurd (omega arith)
      go true false c e = absurd (omega arith)
      go false b c e = absurd (omega arith)

  pub good-rules : sheet_refusal ws ≡ 0 → Rules ws
  good-rules h = let t = good-tests h in rules ws (counts-facts ws t.0) t.1.0

  -- what the tree's test says: one root, and at most one edge into each table
  pub good-roots : sheet_refusal ws ≡ 0 → (length (select (is_root (sheet_of ws)) (up_to (sheet_of ws).n)) ≡ 1) × (every (one_into ws) (table_count ws) ≡ true)
  unfolding root_no
  good-roots h =
      let a = and-true _ _ (sym (tree-are ws (good-rules h)) ∙ (good-tests h).1.1) in
      let b = and-true (eqb (counted (root_no ws) (table_count ws)) 1) (every (one_into ws) (table_count ws)) a.0 in
      (length-up_to (is_root (sheet_of ws)) (sheet_of ws).n ∙ ap (counted (is_root (sheet_of ws))) (n-is ws) ∙ eqb-true _ _ b.0, b.1)

  -- a good sheet, as facts
  pub good-sheet : sheet_refusal ws ≡ 0 → GoodSheet ws
  unfolding root
  good-sheet h =
      let one = (good-roots h).0 in
      let x = mem-select (is_root s) (up_to s.n) (at roots 0) (mem-get_or 0 roots 0 (omega arith)) in
      record {
        joined = joined ws (good-rules h) (good-roots h).1;
        root_in = omega (arith, up_to-mem s.n (at roots 0) x.0, n-is ws);
        root_is = T→≡ (is_root s (at roots 0)) x.1;
        one-root = λ t l e. only roots one t (select-mem (is_root s) (up_to s.n) t (mem-up_to s.n t (omega (arith, n-is ws))) (is_t e));
        not-refused = h;
      }
    where
      s : Sheet
      s = sheet_of ws

      roots : List ℕ
      roots = select (is_root s) (up_to s.n)

      only : (xs : List ℕ) → length xs ≡ 1 → (t : ℕ) → Mem t xs → t ≡ at xs 0
      only [] q t m = absurd m
      only (x ∷ []) q t (inl e) = e
      only (x ∷ []) q t (inr m) = absurd m
      only (x ∷ (y ∷ xs)) q t m = absurd (omega arith)
