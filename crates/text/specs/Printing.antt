-- Document 01: the text of a plan, "First line: root and store length. Then table, kept or not, shown columns, Dep, Need", or of a refusal.
-- Assumes nothing.
use Rattle.std.specs.Prelude.{ℕ, zero, suc, ◌+◌, ◌/◌, ◌%◌, Bool, true, false, cond, List, [], ◌∷◌, ◌++◌, ltb, eqb}
use Rattle.meaning.specs.Plan.{TablePlan, Plan}
use Rattle.text.specs.Ascii.{ascii}
use Rattle.text.specs.Reading.{Text}

-- the digits of n, the one that counts most first and no 0 before it; k digits are enough
unfoldable pub digits : ℕ → ℕ → Text
digits zero n = []
digits (suc k) n = cond (ltb n 10) ((48 + n) ∷ []) (digits k (n / 10) ++ ((48 + n % 10) ∷ []))

-- 20 are enough for 64 bits
unfoldable pub decimal : ℕ → Text
decimal n = digits 20 n

-- "each set rising and parted by commas; `-` is none"
unfoldable pub commas : List ℕ → Text
commas [] = []
commas (x ∷ xs) = 44 ∷ (decimal x ++ commas xs)

unfoldable pub parted : List ℕ → Text
parted [] = []
parted (x ∷ xs) = decimal x ++ commas xs

unfoldable pub set_text : List ℕ → Text
set_text [] = ascii "-"
set_text (x ∷ xs) = parted (x ∷ xs)

unfoldable pub sets_text : List ℕ → List ℕ → List ℕ → Text
sets_text columns dep need = ascii " cols " ++ set_text columns ++ (ascii " dep " ++ set_text dep) ++ (ascii " need " ++ set_text need)

unfoldable pub line_text : ℕ → ℕ → List ℕ → List ℕ → List ℕ → Text
line_text t kept columns dep need = decimal t ++ (ascii " kept " ++ decimal kept) ++ sets_text columns dep need ++ ascii "\n"

unfoldable pub table_text : ℕ → TablePlan → Text
table_text t p = line_text t p.kept p.columns p.dep p.need

-- table t, t + 1, ..
unfoldable pub tables_text : ℕ → List TablePlan → Text
tables_text t [] = []
tables_text t (p ∷ ps) = table_text t p ++ tables_text (suc t) ps

unfoldable pub head_text : ℕ → ℕ → Text
head_text root store = ascii "root " ++ decimal root ++ (ascii " store " ++ decimal store) ++ ascii "\n"

unfoldable pub refused_text : ℕ → Text
refused_text number = ascii "refused " ++ decimal number ++ ascii "\n"

unfoldable pub plan_text : Plan → Text
plan_text p = cond (eqb p.number 0) (head_text p.root p.store ++ tables_text 0 p.tables) (refused_text p.number)

-- one number of a set, after others or as the first
unfoldable pub member_text : Bool → ℕ → Text
member_text true x = 44 ∷ decimal x
member_text false x = decimal x

-- lines 0, 1, .., n - 1
unfoldable pub lines_up_to : (ℕ → Text) → ℕ → Text
lines_up_to line zero = []
lines_up_to line (suc n) = lines_up_to line n ++ line n
