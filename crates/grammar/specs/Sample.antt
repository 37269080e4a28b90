-- A small grammar with an optional part, a choice and a list:
--     item  = [ "-" ] Number
--     entry = "(" [ item { "," item } ] ")" | item
use Rattle.std.specs.Prelude.{ℕ, List, Option, None, Some, is_some}
use Rattle.grammar.specs.Language.{Lang, Mark, mark, one, skip, seq, map_to, maybe, or_else, listed}
use Rattle.grammar.specs.Reader.{Reader, heads, run_one, run_skip, run_seq, run_map, run_maybe, run_or, run_listed}
use Rattle.grammar.specs.declared.sample.Symbol.{Symbol}
use Rattle.grammar.specs.declared.sample.Symbol.TheVariants.{Minus, Number, Open, Close, Comma}
use Rattle.grammar.specs.declared.sample.Item.{Item}
use Rattle.grammar.specs.declared.sample.Entry.{Entry}
use Rattle.grammar.specs.declared.sample.Entry.TheVariants.{Single, Group}

abbrev pub minus : Symbol → Option Mark
minus Minus = Some mark
minus _ = None

abbrev pub open_mark : Symbol → Option Mark
open_mark Open = Some mark
open_mark _ = None

abbrev pub close_mark : Symbol → Option Mark
close_mark Close = Some mark
close_mark _ = None

abbrev pub comma : Symbol → Option Mark
comma Comma = Some mark
comma _ = None

abbrev pub number : Symbol → Option ℕ
number (Number n) = Some n
number _ = None

-- an entry as its items
pub data EntryView : Type 0 where
  Alone : (item : Item) → EntryView
  Together : (items : List Item) → EntryView

abbrev pub entry_view : Entry → EntryView
entry_view (Single item) = Alone item
entry_view (Group v) = Together v.items

abbrev pub to_item : Option Mark × ℕ → Item
to_item v = record { negative = is_some v.0; number = v.1 }

-- item = [ "-" ] Number
abbrev pub item : Lang Symbol Item
item = map_to to_item (seq (maybe (one minus)) (one number))

-- entry = "(" [ item { "," item } ] ")" | item
abbrev pub entry : Lang Symbol EntryView
entry = or_else (skip open_mark (map_to Together (listed comma close_mark item))) (map_to Alone item)

abbrev pub run_item : Reader Symbol Item
run_item = run_map to_item (run_seq (run_maybe (heads minus) (run_one minus)) (run_one number))

abbrev pub run_entry : ℕ → Reader Symbol EntryView
run_entry n =
    run_or (heads open_mark) (run_skip open_mark (run_map Together (run_listed n comma close_mark run_item))) (run_map Alone run_item)
