-- The law of the sample grammar: one line for each of its parts.
use Rattle.std.proofs.Common.{◌≡◌, ℕ, Bool, true, false, refl}
use Rattle.grammar.specs.Language.{mark}
use Rattle.grammar.specs.Reader.{heads}
use Rattle.grammar.specs.Sample.{minus, open_mark, close_mark, comma, number, to_item, Alone, Together, item, entry, run_item, run_entry}
use Rattle.grammar.specs.declared.sample.Symbol.{Symbol}
use Rattle.grammar.specs.declared.sample.Symbol.TheVariants.{Minus, Number, Open, Close, Comma}
use Rattle.grammar.proofs.Good.{never, Good, Starts}
use Rattle.grammar.proofs.Sides.{starts_pick, starts_map, starts_more, starts_maybe, joins_starts}
use Rattle.grammar.proofs.Laws.{good_one, good_next, good_map, good_seq, good_maybe, good_or}
use Rattle.grammar.proofs.Lists.{good_listed}

-- the symbols with which an item begins
abbrev begins_item : Symbol → Bool
begins_item Minus = true
begins_item (Number n) = true
begins_item _ = false

-- a number doesn't go on with an optional minus sign
number_apart : (t : Symbol) → heads number t ≡ true → heads minus t ≡ false
number_apart Minus e = cc
number_apart (Number n) e = refl
number_apart Open e = refl
number_apart Close e = refl
number_apart Comma e = refl

pub good_item : (n : ℕ) → Good n item run_item never
good_item n =
    good_map to_item
    (good_seq (joins_starts (starts_pick number _) number_apart)
    (good_maybe (heads minus) (starts_pick minus _) (λ t h. h) (good_one n minus Minus mark (heads minus) refl))
    (good_one n number (Number 0) 0 never refl))

minus_begins : (t : Symbol) → heads minus t ≡ true → begins_item t ≡ true
minus_begins Minus e = refl
minus_begins (Number n) e = refl
minus_begins Open e = cc
minus_begins Close e = cc
minus_begins Comma e = cc

number_begins : (t : Symbol) → heads number t ≡ true → begins_item t ≡ true
number_begins Minus e = refl
number_begins (Number n) e = refl
number_begins Open e = cc
number_begins Close e = cc
number_begins Comma e = cc

starts_item : Starts begins_item item
starts_item =
    starts_map to_item
    (starts_maybe (starts_more begins_item minus_begins (starts_pick minus _)) (starts_more begins_item number_begins (starts_pick number _)))

-- no item begins with a closing bracket
item_open : (t : Symbol) → begins_item t ≡ true → heads close_mark t ≡ false
item_open Minus e = refl
item_open (Number n) e = refl
item_open Open e = refl
item_open Close e = cc
item_open Comma e = refl

comma_open : (t : Symbol) → heads comma t ≡ true → heads close_mark t ≡ false
comma_open Minus e = refl
comma_open (Number n) e = refl
comma_open Open e = refl
comma_open Close e = cc
comma_open Comma e = refl

-- no item begins with an opening bracket
item_unbracketed : (t : Symbol) → begins_item t ≡ true → heads open_mark t ≡ false
item_unbracketed Minus e = refl
item_unbracketed (Number n) e = refl
item_unbracketed Open e = cc
item_unbracketed Close e = refl
item_unbracketed Comma e = refl

pub good_entry : (n : ℕ) → Good n entry (run_entry n) never
good_entry n =
    good_or (heads open_mark) (starts_pick open_mark _) (joins_starts (starts_map Alone starts_item) item_unbracketed)
    (good_next open_mark Open mark refl
    (λ _. good_map Together
    (good_listed n comma close_mark Comma mark Close mark never refl refl starts_item item_open comma_open (λ t h. refl) (λ t h. refl) (good_item n))))
    (good_map Alone (good_item n))
