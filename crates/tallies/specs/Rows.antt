-- What the code keeps of a sum: a row of bytes for each body, and what is promised of each step.
use Rattle.std.specs.Prelude.{ℕ, suc, ◌+◌, ◌*◌, ◌<◌, ◌≤◌, ◌≡◌, Bool, true, false, not, ◌&&◌, List, length, get_or, take, eqb, ltb}
use Rattle.std.proofs.Math.Option.{Option, none, some}
use Rattle.meaning.specs.Bounds.{signals_most, tables_most}
use Rattle.meaning.specs.Lists.{has}
use Rattle.meaning.specs.Timing.{Tables}
use Rattle.meaning.specs.Meaning.{has_wave, table_at}
use Rattle.meaning.specs.Body.{mark, arg_of}
use Rattle.meaning.specs.Run.{State}
use Rattle.arguments.specs.Supplied.{Supplied}
use Rattle.timing.specs.Held.{Held}
use Rattle.pins.specs.Shown.{table_of}
use Rattle.sums.specs.Sums.{Shown, before, argument, char, Sum, ok_at, or_table, Asks}
use Rattle.sums.specs.Parts.{Kept, Shows, last_of, behind}

-- ---- where things stand in a row

-- the text's tables, and the one before
abbrev pub slots : ℕ
slots = suc tables_most

abbrev pub given_from : ℕ
given_from = signals_most * slots

abbrev pub pins_from : ℕ
pins_from = given_from * 2

abbrev pub fine_from : ℕ
fine_from = pins_from + signals_most

abbrev pub bad_place : ℕ
bad_place = fine_from + tables_most

abbrev pub row_size : ℕ
row_size = bad_place + 3

abbrev pub byte_at : List ℕ → ℕ → ℕ → ℕ
byte_at sums r p = get_or sums (r * row_size + p) 0

abbrev pub flag_at : List ℕ → ℕ → ℕ → Bool
flag_at sums r p = not (eqb (byte_at sums r p) 0)

-- a table's slot
abbrev pub slot_of : Option ℕ → ℕ
slot_of none = tables_most
slot_of (some k) = k

-- is it one?
abbrev pub is_slot : Option ℕ → Bool
is_slot none = true
is_slot (some k) = ltb k tables_most

-- a signal's byte: 0, `#`, or a character
unfoldable pub shown_of : ℕ → Shown
shown_of b = elim (eqb b 0) [ true ↦ before | false ↦ elim (eqb b mark) [ true ↦ argument | false ↦ char b ] ]

-- THE SUM that a row holds
abbrev pub sum_at : List ℕ → ℕ → Sum
sum_at sums r = record {
  bad = flag_at sums r bad_place;
  needs = flag_at sums r (bad_place + 1);
  fine = λ k. ltb k tables_most && flag_at sums r (fine_from + k);
  under = λ i t. (ltb i signals_most && is_slot t) && flag_at sums r (i * slots + slot_of t);
  given = λ i t. (ltb i signals_most && is_slot t) && flag_at sums r (given_from + (i * slots + slot_of t));
  pin = λ i. elim (ltb i signals_most) [ true ↦ shown_of (byte_at sums r (pins_from + i)) | false ↦ before ];
  table = table_of (byte_at sums r (bad_place + 2));
}

-- what is known of a body by its mark: its sum; its sum where its Shift plays at all
abbrev pub is_summed : ℕ
is_summed = 1

abbrev pub is_shifted : ℕ
is_shifted = 2

-- ---- what a step promises

-- only the row r was written
pub record Only (r : ℕ) (sums sums' : List ℕ) : Type 0 where
  pub long : length sums' ≡ length sums
  pub below : (p : ℕ) → p < r * row_size → get_or sums' p 0 ≡ get_or sums p 0
  pub above : (p : ℕ) → r * row_size + row_size ≤ p → get_or sums' p 0 ≡ get_or sums p 0

-- a byte of it was stored
pub record Stored (r p v : ℕ) (sums sums' : List ℕ) : Type 0 where
  pub only : Only r sums sums'
  pub here : byte_at sums' r p ≡ v
  pub else : (q : ℕ) → (q ≡ p → ⊥) → byte_at sums' r q ≡ byte_at sums r q

-- it asks for more than before, and leaves the same
pub record More (r : ℕ) (sums sums' : List ℕ) : Type 0 where
  pub only : Only r sums sums'
  pub kept : (n : ℕ) → Kept n (sum_at sums r) (sum_at sums' r)
  pub pins_are : (i : ℕ) → (sum_at sums' r).pin i ≡ (sum_at sums r).pin i
  pub table_is : (sum_at sums' r).table ≡ (sum_at sums r).table

-- the waveforms' marks hold the tables
abbrev pub Marked : List ℕ → Tables → Type 0
Marked waves tabs = (text : List ℕ) × (tplaces : List ℕ) × (k : ℕ) × Held text tplaces waves k tabs

-- a character of signal i was shown under the table before, whichever that is
pub record Inherits (tabs : Tables) (i c : ℕ) (R : Sum) : Type 0 where
  pub needs : R.needs ≡ true
  pub fine : (k : ℕ) → R.fine k ≡ true → has_wave i c (table_at tabs k) ≡ true

-- t is the slot of the table in force; where that is the one before, it is asked for
pub record Needed (t : ℕ) (sums sums' : List ℕ) (r : ℕ) : Type 0 where
  pub slot : t < slots
  pub is : table_of t ≡ (sum_at sums r).table
  pub needs : (sum_at sums r).table ≡ none → (sum_at sums' r).needs ≡ true

-- what a body of sum U shows by itself under the table before it is asked behind S
pub record Tabled (S U R : Sum) : Type 0 where
  pub chosen : (k : ℕ) → S.table ≡ some k → R.bad ≡ false → U.fine k ≡ true
  pub inherited : S.table ≡ none → (R.needs ≡ true) × ((k : ℕ) → R.fine k ≡ true → U.fine k ≡ true)

-- what it asks by itself
pub record Asked (S U R : Sum) : Type 0 where
  pub good : R.bad ≡ false → U.bad ≡ false
  pub tabled : U.needs ≡ true → Tabled S U R

-- x was shown on signal i under each slot that is marked in the row `from`, from a place on; the last slot is the table in force
pub record ShownWhere (tabs : Tables) (r from place i : ℕ) (x : Shown) (sums sums' : List ℕ) : Type 0 where
  pub shows : (t : Option ℕ) → is_slot t ≡ true → flag_at sums from (place + slot_of t) ≡ true
      → Shows tabs i x (or_table t (sum_at sums r).table) (sum_at sums' r)

-- so was each character of its argument
pub record FedWhere (tabs : Tables) (r from i : ℕ) (cs : List ℕ) (sums sums' : List ℕ) : Type 0 where
  pub each : (c : ℕ) → has c cs ≡ true → ShownWhere tabs r from (given_from + i * slots) i (shown_of c) sums sums'

-- so was the character c
abbrev pub ShownFed : List ℕ → ℕ → ℕ → ℕ → List ℕ → List ℕ → ℕ → Type 0
ShownFed waves r from i sums sums' c = (tabs : Tables) → Marked waves tabs → ShownWhere tabs r from (given_from + i * slots) i (shown_of c) sums sums'

-- ---- characters that are looked at once: a byte for each, 0 until it was seen

abbrev pub bytes : ℕ
bytes = 256

-- every byte of the word w was seen, and P holds of those that were not before
pub record SeenWord (w seen seen' : List ℕ) (P : ℕ → Type 0) : Type 0 where
  pub long : length seen' ≡ length seen
  pub word : (c : ℕ) → has c w ≡ true → get_or seen' c 0 ≡ 0 → ⊥
  pub new : (c : ℕ) → get_or seen c 0 ≡ 0 → (get_or seen' c 0 ≡ 0 → ⊥) → P c

-- ---- what a body leaves

-- of what the row leaves, only signal i is another
pub record Passed (r i : ℕ) (sums sums' : List ℕ) : Type 0 where
  pub only : Only r sums sums'
  pub kept : (n : ℕ) → Kept n (sum_at sums r) (sum_at sums' r)
  pub pins_are : (j : ℕ) → (j ≡ i → ⊥) → (sum_at sums' r).pin j ≡ (sum_at sums r).pin j
  pub table_is : (sum_at sums' r).table ≡ (sum_at sums r).table

-- a body entered in place, as signal i sees it, whose argument is cs
pub record OnSignal (tabs : Tables) (r from i : ℕ) (cs : List ℕ) (sums sums' : List ℕ) : Type 0 where
  pub shown : ShownWhere tabs r from (i * slots) i ((sum_at sums r).pin i) sums sums'
  pub fed : FedWhere tabs r from i cs sums sums'
  pub pin_is : (sum_at sums' r).bad ≡ false → (sum_at sums' r).pin i ≡ behind ((sum_at sums r).pin i) ((sum_at sums from).pin i) cs

-- the table that a body of sum U chose is in force
pub record Retabled (r : ℕ) (U : Sum) (sums sums' : List ℕ) : Type 0 where
  pub only : Only r sums sums'
  pub kept : (n : ℕ) → Kept n (sum_at sums r) (sum_at sums' r)
  pub pins_are : (i : ℕ) → (sum_at sums' r).pin i ≡ (sum_at sums r).pin i
  pub table_is : (sum_at sums' r).table ≡ or_table U.table (sum_at sums r).table

-- ---- a body that is entered from a state: its row by itself

-- is a byte of the row set?
abbrev pub flag_in : List ℕ → ℕ → Bool
flag_in row p = not (eqb (get_or row p 0) 0)

-- what signal i has behind a body that leaves u there, where c was before and its argument is l
unfoldable pub left_on : Shown → ℕ → List ℕ → ℕ
left_on before c l = c
left_on (char x) c l = x
left_on argument c l = last_of l 0

-- its bad flag is not set, and where it shows characters by itself under the table before, that one is fine
pub record Suits (row : List ℕ) (table : Option ℕ) : Type 0 where
  pub good : flag_in row bad_place ≡ false
  pub tabled : flag_in row (bad_place + 1) ≡ true → (k : ℕ) × (table ≡ some k) × (k < tables_most) × (flag_in row (fine_from + k) ≡ true)

-- the character c can be shown on signal i under each slot that is marked in the row, from a place on; the last slot is the table in force
pub record FitsWhere (tabs : Tables) (place i c : ℕ) (table : Option ℕ) (row : List ℕ) : Type 0 where
  pub fits : (t : Option ℕ) → is_slot t ≡ true → flag_in row (place + slot_of t) ≡ true → ok_at tabs (or_table t table) i c ≡ true

-- so can each of these characters, where the row shows the argument
pub record FedFits (tabs : Tables) (i : ℕ) (cs : List ℕ) (table : Option ℕ) (row : List ℕ) : Type 0 where
  pub each : (c : ℕ) → has c cs ≡ true → FitsWhere tabs (given_from + i * slots) i c table row

-- so can the character c
abbrev pub FitsFed : List ℕ → ℕ → Option ℕ → List ℕ → ℕ → Type 0
FitsFed waves i table row c = (tabs : Tables) → Marked waves tabs → FitsWhere tabs (given_from + i * slots) i c table row

-- signal i has c before and cs as its argument: both can be shown, and `pin` is what the row leaves
pub record OnPin (waves : List ℕ) (i c : ℕ) (cs : List ℕ) (table : Option ℕ) (row : List ℕ) (pin : ℕ) : Type 0 where
  pub shown : (tabs : Tables) → Marked waves tabs → FitsWhere tabs (i * slots) i c table row
  pub fed : (tabs : Tables) → Marked waves tabs → FedFits tabs i cs table row
  pub pin_is : pin ≡ left_on (shown_of (get_or row (pins_from + i) 0)) c cs

-- the state s grants all that a body of sum S asks, and `left` are the pins behind it
pub record Grants (tabs : Tables) (n : ℕ) (S : Sum) (s : State) (left : List ℕ) : Type 0 where
  pub asks : Asks tabs n S s
  pub pins_are : (i : ℕ) → i < n → get_or left i 0 ≡ left_on (S.pin i) (get_or s.pins i 0) (arg_of i s.args)

-- the arrays hold the state s
pub record Holds (text pins given args : List ℕ) (n table : ℕ) (s : State) : Type 0 where
  pub pins_are : s.pins ≡ take n pins
  pub table_is : s.table ≡ table_of table
  pub args_are : Supplied text s.args given args
