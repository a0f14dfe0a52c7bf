-- Base tables are lawful exactly if no table has a key twice and every promised edge is kept.
-- Assumes nothing.
use Prim.Native.Nat.{ℕ, ◌<◌}
use mathlib.Core.Path.{◌≡◌, refl, sym, subst}
use mathlib.Core.Bool.{Bool, true, not, ◌&&◌}
use mathlib.Core.List.{[]}
use mathlib.Core.Logic.{⊎_elim}
use lib.Dec.{T}
use lib.ListN.{length, get_or}
use Rattle.lists.specs.Lists.{at, Mem, all}
use Rattle.lists.specs.Loops.{every}
use Rattle.lists.proofs.Truth.{is_t, T→≡, eq→eqb, eqb→≡, same_test, decided, or_inl, or_inr, or_cases, and-fst, and-snd, and_both, not→F, F→not}
use Rattle.lists.proofs.Truth.{all-get, all-make, mem-get_or}
use Rattle.lists.proofs.Loops.{every-at, every-from}
use Rattle.rows.specs.Rows.{Row}
use Rattle.rows.proofs.Ranks.{mem-at}
use Rattle.meaning.specs.Sheet.{Edge, Sheet, width}
use Rattle.meaning.specs.Plan.{is_promised}
use Rattle.meaning.specs.Base.{Tables, rows_of, lawful}
use Rattle.laws.specs.Sheets.{Good}
use Rattle.laws.proofs.Meanings.{Met, lawful-get, lawful-make}
use Rattle.filling.specs.Runs.{row_no}
use Rattle.filling.specs.Promises.{once_in, met_at, keeps}

-- One edge
module _ (base : Tables) (e : Edge) where
  pub keeps-loose : (e.promise ≡ 1 → ⊥) → keeps base e ≡ true
  unfolding keeps
  keeps-loose h =
      T→≡ _ (or_inl (not (is_promised e)) (every (met_at base e) (length (rows_of base e.child))) (F→not (is_promised e) (λ k. h (eqb→≡ e.promise 1 k))))

  pub keeps-promised : (b : Bool) → e.promise ≡ 1 → b ≡ every (met_at base e) (length (rows_of base e.child)) → keeps base e ≡ b
  unfolding keeps
  keeps-promised b h q = rw (T→≡ (is_promised e) (eq→eqb h), q)

  -- each row of the child finds its parent, if the edge is kept
  met-get : T (is_promised e) → T (keeps base e) → (x : Row) → Mem x (rows_of base e.child) → Met base e.parent (at x e.column)
  unfolding keeps met_at row_no
  met-get p k x m =
      let rows = rows_of base e.child in
      let all = every (met_at base e) (length rows) in
      let i = mem-at [] x rows m in
      let here : T all = ⊎_elim (λ h. absurd (not→F (is_promised e) h p)) (λ h. h) (or_cases (not (is_promised e)) all k) in
      subst (λ (x : Row). Met base e.parent (at x e.column)) i.2
      (is_t (every-at (met_at base e) i.0 (length rows) i.1 (T→≡ all here)))

  met-make : (T (is_promised e) → (x : Row) → Mem x (rows_of base e.child) → Met base e.parent (at x e.column)) → T (keeps base e)
  unfolding keeps met_at row_no
  met-make h =
      let rows = rows_of base e.child in
      let all = every (met_at base e) (length rows) in
      ⊎_elim (λ p. or_inr (not (is_promised e)) all (is_t (every-from (met_at base e) (length rows)
      (λ i l. T→≡ _ (h p (get_or rows i []) (mem-get_or [] rows i l))))))
      (λ p. or_inl (not (is_promised e)) all (F→not (is_promised e) p)) (decided (is_promised e))

module _ (s : Sheet) (g : Good s) (base : Tables) (many : length base ≡ s.n)
    (widths : (t : ℕ) → t < s.n → (x : Row) → Mem x (rows_of base t) → length x ≡ width s t) where
  pub lawful-is : lawful s base ≡ (every (once_in base) s.n && all (keeps base) s.edges)
  unfolding once_in
  lawful-is =
      let once = every (once_in base) s.n in
      let kept = all (keeps base) s.edges in
      same_test (lawful s base) (once && kept)
      (λ h.
      let law = lawful-get s base many h in
      and_both once kept (is_t (every-from (once_in base) s.n (λ t l. T→≡ _ (law.keys t l))))
      (all-make (keeps base) s.edges (λ e m.
      met-make base e (λ p x i. law.parents e.child (g.child-in e m) x i e (record { edge = m; child = refl; promise = p })))))
      (λ h.
      lawful-make s base
      (record {
        many = many;
        widths = widths;
        keys = λ t l. is_t (every-at (once_in base) t s.n l (T→≡ once (and-fst once kept h)));
        parents = λ t l x m e p.
            met-get base e p.promise (all-get (keeps base) s.edges (and-snd once kept h) e p.edge) x
            (subst (λ (t : ℕ). Mem x (rows_of base t)) (sym p.child) m);
      }))
