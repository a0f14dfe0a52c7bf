-- Document 01's limits, each by one name.
-- Assumes nothing.
use Rattle.std.specs.Prelude.{ℕ, ◌*◌}

-- "n (1 to 8 tables)", "widths, each 1 to 8", "c (conditions, 0 to 16), p (listed columns, 1 to 16)"
abbrev pub most_tables : ℕ
most_tables = 8

abbrev pub most_columns : ℕ
most_columns = 8

abbrev pub most_conditions : ℕ
most_conditions = 16

abbrev pub most_listed : ℕ
most_listed = 16

-- "room words, each 0 to 4,096 rows"; "n counts (0 to 65,535 each)"
abbrev pub most_room : ℕ
most_room = 4096

abbrev pub most_rows : ℕ
most_rows = 65535

-- "nine counts (tables 0 to 7, then the list)": how many, and the place of the list's
abbrev pub count_words : ℕ
count_words = 9

abbrev pub list_count : ℕ
list_count = 8

-- a place for each column, or for each table, of each table
abbrev pub most_places : ℕ
most_places = most_tables * most_columns
