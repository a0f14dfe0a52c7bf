-- The reader reads what the text says: the state after all its bytes, against the definition on the whole text.
-- Assumes nothing.
use Prim.Native.Nat.{ℕ, zero, suc, ◌+◌, ◌-◌, ◌*◌, ◌^◌, ◌≤◌, ◌<◌}
use mathlib.Core.Path.{◌≡◌, refl, sym, ap, ap₂, ◌∙◌}
use mathlib.Core.Logic.{inl}
use mathlib.Core.Bool.{Bool, true, false, cond, true≢false, ◌&&◌}
use mathlib.Core.List.{List, [], ◌∷◌, ◌++◌, map, append-nil, append_assoc}
use native.Mathlib.Numerals.{add-one}
use native.Mathlib.Omega.{arith}
use lib.Dec.{ltb}
use lib.ListN.{length, take, set, length-append, length-take, length-set, length-replicate}
use lib.Seq.{take_all, take-append-le, take-suc-set, length-take-le}
use borrow.Author.Tests.{lt-ltb, le-ltb, ltb-true, ltb-false}
use Rattle.std.specs.Prelude.{Option, Some, None}
use Rattle.std.specs.Option as OptionWords
use Rattle.std.specs.Option.{unwrap_or}
use Rattle.lists.specs.Lists.{Words, all, select}
use Rattle.text.specs.Reading.{Text, is_blank, is_digit, onward, value, before, pieces, is_some, decimals, is_number, Reading, says, isnt, read_text}
use Rattle.text.specs.Readers.{most, has_begun, hand, fresh, broken, emptied, noted}
use Rattle.text.specs.Readers.{longer, after_blank, after_byte, after_bytes, finished, reading_of, first_words}
use Rattle.text.specs.declared.reading.Reader.{Reader}
use Rattle.text.proofs.Bytes.{blank, passed, failing, byte-failed, byte-blank, byte-digit, byte-other, digit-longer, digit-broken}

-- words before what is read next
abbrev and_then : Words → Reading → Reading
and_then ws (says us) = says (ws ++ us)
and_then ws isnt = isnt

-- the number in hand, if one has begun
abbrev in_hand : Bool → ℕ → Words
in_hand true v = v ∷ []
in_hand false v = []

-- what a text says after a number in hand, byte by byte
unfoldable read_from : Bool → ℕ → Text → Reading
read_from begun v [] = says (in_hand begun v)
read_from begun v (b ∷ bs) =
    cond (is_blank b) (and_then (in_hand begun v) (read_from false 0 bs))
    (cond (is_digit b) (cond (ltb (v * 10 + (b - 48)) (2 ^ 64)) (read_from true (v * 10 + (b - 48)) bs) isnt) isnt)

-- the same, by pieces
unfoldable read_pieces : List Text → Reading
read_pieces ps = cond (all is_number (select is_some ps)) (says (map value (select is_some ps))) isnt

unfoldable read_hand : Bool → ℕ → List Text → Reading
read_hand false v ps = read_pieces ps
read_hand true v [] = isnt
read_hand true v (p ∷ ps) = cond (all is_digit p && ltb (onward v p) (2 ^ 64)) (and_then (onward v p ∷ []) (read_pieces ps)) isnt

then-none : (r : Reading) → and_then [] r ≡ r
then-none (says ws) = refl
then-none isnt = refl

-- a number never shrinks
onward-le : (p : Text) (v : ℕ) → v ≤ onward v p
unfolding onward
onward-le [] v = omega arith
onward-le (b ∷ p) v = omega (arith, onward-le p (v * 10 + (b - 48)))

-- a piece with some byte, and no number in hand, is a number begun at 0
begin : (b : ℕ) (p : Text) (ps : List Text) → read_pieces ((b ∷ p) ∷ ps) ≡ read_hand true 0 ((b ∷ p) ∷ ps)
unfolding read_hand read_pieces is_some is_number value
begin b p ps = go (is_number (b ∷ p)) refl (all is_number (select is_some ps)) refl
  where
    go : (t : Bool) → is_number (b ∷ p) ≡ t → (u : Bool) → all is_number (select is_some ps) ≡ u
        → cond (t && u) (says (map value ((b ∷ p) ∷ select is_some ps))) isnt
        ≡ cond t (and_then (value (b ∷ p) ∷ []) (cond u (says (map value (select is_some ps))) isnt)) isnt
    go true e true h = refl
    go true e false h = refl
    go false e true h = refl
    go false e false h = refl

too_large : (t : Bool) (v w : ℕ) → w ≤ v → ltb w (2 ^ 64) ≡ false → (t && ltb v (2 ^ 64)) ≡ false
too_large true v w h l = le-ltb v (2 ^ 64) (omega (arith, ltb-false w (2 ^ 64) l))
too_large false v w h l = refl

first_piece : (bs : Text) → (p : Text) × (ps : List Text) × (pieces bs ≡ p ∷ ps)
unfolding pieces before
first_piece [] = ([], [], refl)
first_piece (b ∷ bs) = go (is_blank b) (first_piece bs)
  where
    go : (t : Bool) → (p : Text) × (ps : List Text) × (pieces bs ≡ p ∷ ps)
        → (p : Text) × (ps : List Text) × (cond t ([] ∷ pieces bs) (before b (pieces bs)) ≡ p ∷ ps)
    go true q = ([], pieces bs, refl)
    go false (p, ps, e) = (b ∷ p, ps, ap (before b) e)

-- a blank ends the number in hand; a byte more belongs to it
ended : (begun : Bool) (v : ℕ) (ps : List Text) → v < 2 ^ 64 → and_then (in_hand begun v) (read_pieces ps) ≡ read_hand begun v ([] ∷ ps)
unfolding read_hand read_pieces is_some onward
ended true v ps h = passed (ltb v (2 ^ 64)) _ _ (lt-ltb v (2 ^ 64) h)
ended false v ps h = then-none (read_pieces ps)

belongs : (begun : Bool) (v b : ℕ) (p : Text) (ps : List Text) → (begun ≡ false → v ≡ 0) → read_hand true v ((b ∷ p) ∷ ps) ≡ read_hand begun v ((b ∷ p) ∷ ps)
unfolding read_hand
belongs true v b p ps z = refl
belongs false v b p ps z = rw (z refl) (sym (begin b p ps))

from_pieces : (begun : Bool) (v : ℕ) (bs : Text) → v < 2 ^ 64 → (begun ≡ false → v ≡ 0) → read_from begun v bs ≡ read_hand begun v (pieces bs)
unfolding read_from read_hand read_pieces pieces before onward is_some
from_pieces true v [] h z = passed (ltb v (2 ^ 64)) (says (v ∷ [])) isnt (lt-ltb v (2 ^ 64) h)
from_pieces false v [] h z = refl
from_pieces begun v (b ∷ bs) h z =
    blank (is_blank b) (from_pieces false 0 bs (omega arith) (λ e. refl))
    (λ l. from_pieces true (v * 10 + (b - 48)) bs l (λ e. let z : ◌≡◌ {A = ℕ} 0 1 = cc in absurd (omega arith)))
  where
    w : ℕ
    w = v * 10 + (b - 48)

    large : (p : Text) (ps : List Text) → pieces bs ≡ p ∷ ps → (w < 2 ^ 64 → read_from true w bs ≡ read_hand true w (pieces bs))
        → (l : Bool) → ltb w (2 ^ 64) ≡ l
        → cond l (read_from true w bs) isnt ≡ read_hand true w (p ∷ ps)
    large p ps e ih true l = ih (ltb-true _ _ l) ∙ ap (read_hand true w) e
    large p ps e ih false l = failing _ _ _ (too_large (all is_digit p) (onward w p) w (onward-le p w) l)

    digit : (p : Text) (ps : List Text) → pieces bs ≡ p ∷ ps → (w < 2 ^ 64 → read_from true w bs ≡ read_hand true w (pieces bs)) → (d : Bool)
        → cond d (cond (ltb w (2 ^ 64)) (read_from true w bs) isnt) isnt
        ≡ cond (d && all is_digit p && ltb (onward w p) (2 ^ 64)) (and_then (onward w p ∷ []) (read_pieces ps)) isnt
    digit p ps e ih true = large p ps e ih (ltb w (2 ^ 64)) refl
    digit p ps e ih false = refl

    piece : (q : (p : Text) × (ps : List Text) × (pieces bs ≡ p ∷ ps)) → (w < 2 ^ 64 → read_from true w bs ≡ read_hand true w (pieces bs))
        → cond (is_digit b) (cond (ltb w (2 ^ 64)) (read_from true w bs) isnt) isnt ≡ read_hand begun v (before b (pieces bs))
    piece (p, ps, e) ih = digit p ps e ih (is_digit b) ∙ belongs begun v b p ps z ∙ ap (λ ps. read_hand begun v (before b ps)) (sym e)

    blank : (t : Bool) → read_from false 0 bs ≡ read_pieces (pieces bs) → (w < 2 ^ 64 → read_from true w bs ≡ read_hand true w (pieces bs))
        → cond t (and_then (in_hand begun v) (read_from false 0 bs)) (cond (is_digit b) (cond (ltb w (2 ^ 64)) (read_from true w bs) isnt) isnt)
        ≡ read_hand begun v (cond t ([] ∷ pieces bs) (before b (pieces bs)))
    blank true end more = ap (and_then (in_hand begun v)) end ∙ ended begun v (pieces bs) h
    blank false end more = piece (first_piece bs) more

-- What holds of every reader that has not failed
record Unfailed (r : Reader) : Type 0 where
  pub going : r.failed ≡ false
  pub long : length r.words ≡ most
  pub room : r.many ≤ most

-- the words kept so far
abbrev held : Reader → Words
held r = take r.many r.words

-- one number more among the first n words, while there is room and when there is none
held_none : (n many : ℕ) (ws : Words) → many ≤ n → take many ws ≡ take n (take many ws ++ [])
held_none n many ws h = sym (take_all n (take many ws ++ []) (simp (length-append, length-take) (omega arith)) ∙ append-nil (take many ws))

held_more : (n many v : ℕ) (ws : Words) → many < n → length ws ≡ n → take (many + 1) (set ws many v) ≡ take n (take many ws ++ (v ∷ []))
held_more n many v ws h l =
    rw (add-one, take-suc-set ws many v (omega arith)) (sym (take_all n (take many ws ++ (v ∷ [])) (simp (length-append, length-take) (omega arith))))

held-full : (n many v : ℕ) (ws : Words) → many ≤ n → n ≤ many → length ws ≡ n → take many ws ≡ take n (take many ws ++ (v ∷ []))
held-full n many v ws h f l =
    let m : length (take many ws) ≡ many = length-take-le many ws (omega arith) in
    sym (take-append-le n (take many ws) (v ∷ []) (omega arith) ∙ take_all n (take many ws) (omega arith))

-- no number begun is 0 in hand
no-hand : (o : Option ℕ) → OptionWords.is_some o ≡ false → unwrap_or o 0 ≡ 0
no-hand None e = refl
no-hand (Some v) e = absurd (true≢false e)

record Blanked (r q : Reader) : Type 0 where
  pub unfailed : Unfailed q
  pub empty : has_begun q ≡ false
  pub more : held q ≡ take most (held r ++ in_hand (has_begun r) (hand r))

blanked : (r : Reader) → Unfailed r → Blanked r (after_blank r)
unfolding after_blank noted emptied
blanked r p = go (has_begun r) refl (ltb r.many most) refl
  where
    go : (t : Bool) → has_begun r ≡ t → (u : Bool) → ltb r.many most ≡ u → Blanked r (cond t (cond u (noted r) (emptied r)) r)
    go false e u l = record { unfailed = p; empty = e; more = rw e (held_none most r.many r.words p.room) }
    go true e true l =
        let m : r.many < most = ltb-true _ _ l in
        record {
          unfailed = record { going = p.going; long = simp length-set p.long; room = omega arith };
          empty = refl;
          more = rw e (held_more most r.many (hand r) r.words m p.long);
        }
    go true e false l =
        record {
          unfailed = record { going = p.going; long = p.long; room = p.room };
          empty = refl;
          more = rw e (held-full most r.many (hand r) r.words p.room (ltb-false _ _ l) p.long);
        }

-- what is kept of the words so far and of those to come
first-twice : (hs xs : Words) (r : Reading) → first_words (and_then (take most (hs ++ xs)) r) ≡ first_words (and_then hs (and_then xs r))
unfolding first_words
first-twice hs xs isnt = refl
first-twice hs xs (says ws) = ap says (go most (hs ++ xs) ws ∙ ap (take most) (append_assoc hs xs ws))
  where
    go : (n : ℕ) (ys zs : Words) → take n (take n ys ++ zs) ≡ take n (ys ++ zs)
    go zero ys zs = refl
    go (suc n) [] zs = refl
    go (suc n) (y ∷ ys) zs = ap (λ l. y ∷ l) (go n ys zs)

-- what a reader reads in the end if these bytes are all that is left
unfoldable ends_as : Reader → Text → Reading
ends_as r bs = reading_of (finished (after_bytes r bs))

-- once failed, always
stays : (r : Reader) (bs : Text) → r.failed ≡ true → ends_as r bs ≡ isnt
unfolding ends_as after_bytes reading_of finished
stays r [] f = ap reading_of (sym (byte-failed r r 10 f)) ∙ sym (passed r.failed isnt _ f)
stays r (b ∷ bs) f = ap (λ q. ends_as q bs) (sym (byte-failed r r b f)) ∙ stays r bs f

fails : (r : Reader) (bs : Text) → ends_as (broken r) bs ≡ isnt
unfolding broken
fails r bs = stays (broken r) bs refl

ends-blank : (r : Reader) → Unfailed r → ends_as r [] ≡ first_words (says (held r ++ in_hand (has_begun r) (hand r)))
unfolding ends_as after_bytes reading_of finished first_words
ends-blank r p =
    let q = blanked r p in
    ap reading_of (sym (byte-blank r (after_blank r) 10 p.going (blank 10 (inl refl)) refl))
    ∙ sym (failing (after_blank r).failed isnt (says (held (after_blank r))) q.unfailed.going)
    ∙ ap says q.more

longer-unfailed : (r : Reader) (d : ℕ) → Unfailed r → Unfailed (longer r d)
unfolding longer
longer-unfailed r d p = record { going = p.going; long = p.long; room = p.room }

step : (r q : Reader) (b : ℕ) (bs : Text) → q ≡ after_byte r b → ends_as r (b ∷ bs) ≡ ends_as q bs
unfolding ends_as after_bytes
step r q b bs e = ap (λ q. ends_as q bs) (sym e)

ends : (bs : Text) (r : Reader) → Unfailed r → ends_as r bs ≡ first_words (and_then (held r) (read_from (has_begun r) (hand r) bs))
unfolding read_from first_words longer
ends [] r p = ends-blank r p
ends (b ∷ bs) r p =
    by-blank (is_blank b) refl (ends bs (after_blank r) (blanked r p).unfailed) (ends bs (longer r (b - 48)) (longer-unfailed r (b - 48) p))
  where
    w : ℕ
    w = (hand r) * 10 + (b - 48)

    -- what the rest says after the number in hand
    long : Reading
    long = first_words (and_then (held r) (read_from true w bs))

    blank-ends : Blanked r (after_blank r)
        → ends_as (after_blank r) bs ≡ first_words (and_then (held (after_blank r)) (read_from (has_begun (after_blank r)) (hand (after_blank r)) bs))
        → ends_as (after_blank r) bs ≡ first_words (and_then (held r) (and_then (in_hand (has_begun r) (hand r)) (read_from false 0 bs)))
    blank-ends q ih =
        ih
        ∙ ap (λ h. first_words (and_then h (read_from (has_begun (after_blank r)) (hand (after_blank r)) bs))) q.more
        ∙ ap₂ (λ t v. first_words (and_then (take most (held r ++ in_hand (has_begun r) (hand r))) (read_from t v bs))) q.empty
        (no-hand (after_blank r).number q.empty)
        ∙ first-twice (held r) (in_hand (has_begun r) (hand r)) (read_from false 0 bs)

    by_size : is_blank b ≡ false → is_digit b ≡ true → (l : Bool) → ltb w (2 ^ 64) ≡ l → ends_as (longer r (b - 48)) bs ≡ long
        → ends_as r (b ∷ bs) ≡ first_words (and_then (held r) (cond l (read_from true w bs) isnt))
    by_size k d true l ih = step r _ b bs (byte-digit r _ b p.going k d (digit-longer r (b - 48) l)) ∙ ih
    by_size k d false l ih = step r _ b bs (byte-digit r _ b p.going k d (digit-broken r (b - 48) l)) ∙ fails r bs

    by-digit : is_blank b ≡ false → (d : Bool) → is_digit b ≡ d → ends_as (longer r (b - 48)) bs ≡ long
        → ends_as r (b ∷ bs) ≡ first_words (and_then (held r) (cond d (cond (ltb w (2 ^ 64)) (read_from true w bs) isnt) isnt))
    by-digit k true d ih = by_size k d (ltb w (2 ^ 64)) refl ih
    by-digit k false d ih = step r _ b bs (byte-other r _ b p.going k d refl) ∙ fails r bs

    by-blank : (t : Bool) → is_blank b ≡ t
        → ends_as (after_blank r) bs ≡ first_words (and_then (held (after_blank r)) (read_from (has_begun (after_blank r)) (hand (after_blank r)) bs))
        → ends_as (longer r (b - 48)) bs ≡ long
        → ends_as r (b ∷ bs) ≡ first_words (and_then (held r) (cond t (and_then (in_hand (has_begun r) (hand r)) (read_from false 0 bs))
        (cond (is_digit b) (cond (ltb w (2 ^ 64)) (read_from true w bs) isnt) isnt)))
    by-blank true k blank-ih digit-ih = step r _ b bs (byte-blank r _ b p.going k refl) ∙ blank-ends (blanked r p) blank-ih
    by-blank false k blank-ih digit-ih = by-digit k (is_digit b) refl digit-ih

-- The reader reads the first words that the whole text says, or that it isn't such numbers
pub reads : (text : Text) → reading_of (finished (after_bytes fresh text)) ≡ first_words (read_text text)
unfolding ends_as read_hand read_pieces read_text decimals
reads text =
    ends text fresh (record { going = refl; long = length-replicate {A = ℕ} most 0; room = omega arith })
    ∙ ap first_words (then-none (read_from false 0 text) ∙ from_pieces false 0 text (omega arith) (λ e. refl))
