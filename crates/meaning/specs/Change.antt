-- Document 01, "One change, on any sound store", with its refusals.
-- Assumes nothing.
use Rattle.std.specs.Prelude.{ℕ, zero, suc, Bool, true, cond, not, ◌&&◌, ◌||◌, List, [], ◌∷◌, map, eqb, length, set}
use Rattle.lists.specs.Lists.{Words, at, all, select, member, up_to, place_of, choices}
use Rattle.rows.specs.Rows.{Row, Rows, key, pick, same_row, put_rows, take_rows, has_row, has_rows, has_key}
use Rattle.meaning.specs.Answers.{wrong_length, bad_change, alters_tied, not_sound, contradiction, no_room, unless, ◌or_else◌, Outcome, refused}
use Rattle.meaning.specs.Sheet.{Listed, Sheet, tables, width, sheet_of, sheet_refusal}
use Rattle.meaning.specs.Plan.{root, edge_into, names, key_listed, kept, shown, store_length}
use Rattle.meaning.specs.Base.{Tables, rows_of, Change, by_kind, good_change, tied_stay}
use Rattle.meaning.specs.Meaning.{qualified, Way, joins, list_row, Model}
use Rattle.meaning.specs.Store.{store_of, model_of, sound, fits}

-- a side-table row of t at t's full width, so that it can stand in a way: 0 in each column that is not shown
unfoldable pub widened : Sheet → ℕ → Row → Row
widened s t r = map (λ c. at r (place_of c (shown s t))) (up_to (width s t))

unfoldable pub wide_sides : Sheet → Model → Tables
wide_sides s m = map (λ t. map (widened s t) (rows_of m.sides t)) (tables s)

-- r is qualified by the store's side tables
abbrev pub qualifies : Sheet → Model → ℕ → Row → Bool
qualifies s m t r = qualified s (rows_of m.sides) t r

-- ways can be taken "only if r is in the root or the root has a side table"
unfoldable pub can_take : Sheet → ℕ → Bool
can_take s t = eqb t (root s) || kept s (root s)

-- "A way through r joins r with one side-table row of each other table; it exists only if r is qualified", and if ways can be taken
unfoldable pub ways_through : Sheet → Model → ℕ → Row → List Way
ways_through s m t r = cond (qualifies s m t r && can_take s t) (select (joins s) (choices (set (wide_sides s m) t (r ∷ [])))) []

-- the list rows of the ways through r
unfoldable pub rows_through : Sheet → Model → ℕ → Row → Rows
rows_through s m t r = map (list_row s) (ways_through s m t r)

-- Keys of one table's rows
pub record Keys : Type 0 where
  pub table : ℕ
  pub keys : List ℕ

-- the keys of the child's side-table rows that refer to one of the keys of t in hand
unfoldable pub referring : Sheet → Model → ℕ → List ℕ → List ℕ
referring s m t keys =
    map key (select (λ q. member (at q (edge_into s t).column) keys) (rows_of (wide_sides s m) (edge_into s t).child))

-- "While the table's key is not listed, pass to the child's side table, to the keys of its rows that refer to the keys in hand":
-- k tables are left on the path
abbrev pub keys_reached : Sheet → Model → ℕ → ℕ → List ℕ → Keys
keys_reached s m zero t keys = record { table = t; keys = [] }
keys_reached s m (suc k) t keys =
    cond (key_listed s t) (record { table = t; keys = keys }) (keys_reached s m k (edge_into s t).child (referring s m t keys))

-- where among the listed columns the key of t stands
abbrev pub key_place : List Listed → ℕ → ℕ
key_place [] t = 0
key_place (l ∷ ls) t = cond (names t 0 l) 0 (suc (key_place ls t))

-- a list row shows one of the keys
abbrev pub shows_key : Sheet → Keys → Row → Bool
shows_key s reached row = member (at row (key_place s.listed reached.table)) reached.keys

-- the list rows found by r's key
unfoldable pub rows_found : Sheet → Model → ℕ → Row → Rows
rows_found s m t r = select (shows_key s (keys_reached s m s.n t (key r ∷ []))) m.list

-- a list row with r's values in the columns of table t
abbrev pub with_columns : List Listed → ℕ → Row → Row → Row
with_columns [] t r row = []
with_columns (l ∷ ls) t r [] = []
with_columns (l ∷ ls) t r (v ∷ row) = cond (eqb l.table t) (at r l.column) v ∷ with_columns ls t r row

-- What a change does: the rows that leave and enter its table's side table, and the rows taken from the list and added to it
pub record Effect : Type 0 where
  pub side_out : Rows
  pub side_in : Rows
  pub list_out : Rows
  pub list_in : Rows

abbrev pub no_effect : Effect
no_effect = record { side_out = []; side_in = []; list_out = []; list_in = [] }

-- r's shown columns, if t has a side table
unfoldable pub side_row : Sheet → ℕ → Row → Rows
side_row s t r = cond (kept s t) (pick (shown s t) r ∷ []) []

-- "its shown columns enter R's side table (if kept). The list gains one row for each way through r"
unfoldable pub insert_effect : Sheet → Model → ℕ → Row → Effect
insert_effect s m t r = record { side_out = []; side_in = side_row s t r; list_out = []; list_in = rows_through s m t r }

-- "the same rows leave"
unfoldable pub delete_effect : Sheet → Model → ℕ → Row → Effect
delete_effect s m t r = record { side_out = side_row s t r; side_in = []; list_out = rows_through s m t r; list_in = [] }

-- "the side-table row is replaced. If ways can be taken as above, the list rows of the ways through r are replaced by those of r'.
-- If not", those found by r's key "get r''s columns"
unfoldable pub update_effect : Sheet → Model → ℕ → Row → Row → Effect
update_effect s m t r r' =
    record {
      side_out = side_row s t r;
      side_in = side_row s t r';
      list_out = cond (can_take s t) (rows_through s m t r) (rows_found s m t r);
      list_in = cond (can_take s t) (rows_through s m t r') (map (with_columns s.listed t r') (rows_found s m t r));
    }

-- "A row that isn't qualified changes nothing"
unfoldable pub effect : Sheet → Model → Change → Effect
effect s m c =
    let t = c.table in
    by_kind c.kind
    (cond (qualifies s m t c.new) (insert_effect s m t c.new) no_effect)
    (cond (qualifies s m t c.old) (delete_effect s m t c.old) no_effect)
    (cond (qualifies s m t c.old) (update_effect s m t c.old c.new) no_effect)
    no_effect

-- the model after an effect on table t
unfoldable pub after : Model → ℕ → Effect → Model
after m t x =
    record {
      sides = set m.sides t (put_rows x.side_in (take_rows x.side_out (rows_of m.sides t)));
      list = put_rows x.list_in (take_rows x.list_out m.list);
    }

-- Refusal 8, each contradiction as a test that is to be passed. Not "an insert whose key is in R's kept side table"
unfoldable pub new_key : Model → ℕ → Row → Bool
new_key m t r = not (has_key (key r) (rows_of m.sides t))

-- not "a delete or update of a qualified row whose shown columns aren't in the kept side table, or of an unqualified row whose key is"
unfoldable pub old_row : Sheet → Model → ℕ → Row → Bool
old_row s m t r =
    not (kept s t)
    || cond (qualifies s m t r) (has_row (pick (shown s t) r) (rows_of m.sides t)) (not (has_key (key r) (rows_of m.sides t)))

-- not "list rows found by key that show other values than r"
unfoldable pub found_show : Sheet → Model → ℕ → Row → Bool
found_show s m t r =
    not (qualifies s m t r) || can_take s t || all (λ row. same_row row (with_columns s.listed t r row)) (rows_found s m t r)

-- nor "list rows to be taken that aren't there as often"
unfoldable pub agrees : Sheet → Model → Change → Bool
agrees s m c =
    let t = c.table in
    by_kind c.kind (new_key m t c.new) (old_row s m t c.old) (old_row s m t c.old && found_show s m t c.old) true
    && has_rows (effect s m c).list_out m.list

unfoldable pub model_after : Sheet → Words → Change → Model
model_after s store c = after (model_of s store) c.table (effect s (model_of s store) c)

unfoldable pub change_refusal : Words → Words → Change → ℕ
change_refusal sheet store c =
    let s = sheet_of sheet in
    sheet_refusal sheet or_else
    (unless (eqb (length store) (store_length s)) wrong_length
    (unless (good_change s c) bad_change
    (unless (tied_stay s c) alters_tied
    (unless (sound s store) not_sound
    (unless (agrees s (model_of s store) c) contradiction
    (unless (fits s (model_after s store c)) no_room
    0))))))

-- "The answer carries rows taken from the list and rows added"
unfoldable pub accepted : Sheet → Words → Change → Outcome
accepted s store c =
    let x = effect s (model_of s store) c in
    record {
      number = 0;
      taken = length x.list_out;
      added = length x.list_in;
      words = store_of s (model_after s store c);
    }

unfoldable pub change : Words → Words → Change → Outcome
change sheet store c =
    let number = change_refusal sheet store c in
    cond (eqb number 0) (accepted (sheet_of sheet) store c) (refused number store)
