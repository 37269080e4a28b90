-- Clashes of entries are those of items.
use Rattle.std.proofs.Common.{◌≡◌, ℕ, max, true, inl, inr, ◌⊎◌, List, length, Option, Some, None, refl, sym, ◌∙◌, ap, slice_get}
use Rattle.std.specs.List.{IsDistinct}
use Rattle.std.specs.Str.{bytes_eq}
use Rattle.ir_same.proofs.Numbers.{one_text}
use Rattle.ir_tree.specs.Known.{module_known}
use Rattle.ir_tree.specs.NameTable.{text_of}
use Rattle.ir_tree.specs.ShapeOf.{module_shape}
use Rattle.ir_tree.specs.declared.parsed.Parsed.{Parsed}
use Rattle.ir_rules.specs.Places.{Place}
use Rattle.ir_rules.specs.NameRules.{type_name_at, symbol_at, AreTwins, Clash, two_types, two_symbols}
use Rattle.ir_rules.specs.Faults.{IsFirst, ClashFault}
use Rattle.ir_repeats.specs.declared.entries.Item.{Item}
use Rattle.ir_repeats.specs.declared.entries.Item.TheVariants as item
use Rattle.ir_repeats.specs.declared.entries.Entry.{Entry}
use Rattle.ir_repeats.specs.Least.{first_of}
use Rattle.ir_repeats.specs.Entries.{place_of, type_entries, symbol_entries, EntryClash, AreNamedBelow}
use Rattle.ir_repeats.proofs.GivenFirsts.{first_either}
use Rattle.ir_repeats.proofs.Standing.{Stands, type_stands, symbol_stands, Entered, type_entered, symbol_entered}

-- an item is told by its place
place_once : (x y : Item) → place_of x ≡ place_of y → x ≡ y
place_once (item.Type j) (item.Type k) e = cc
place_once (item.Type j) (item.Global k) e = cc
place_once (item.Type j) (item.Declare k) e = cc
place_once (item.Type j) (item.Function k) e = cc
place_once (item.Global j) (item.Type k) e = cc
place_once (item.Global j) (item.Global k) e = cc
place_once (item.Global j) (item.Declare k) e = cc
place_once (item.Global j) (item.Function k) e = cc
place_once (item.Declare j) (item.Type k) e = cc
place_once (item.Declare j) (item.Global k) e = cc
place_once (item.Declare j) (item.Declare k) e = cc
place_once (item.Declare j) (item.Function k) e = cc
place_once (item.Function j) (item.Type k) e = cc
place_once (item.Function j) (item.Global k) e = cc
place_once (item.Function j) (item.Declare k) e = cc
place_once (item.Function j) (item.Function k) e = cc

pub types_below : (p : Parsed) → module_known p.«module» ≡ true → AreNamedBelow (length p.«module».names) (type_entries p)
types_below p known j e h = (type_stands p known j e h).known

pub symbols_below : (p : Parsed) → module_known p.«module» ≡ true → AreNamedBelow (length p.«module».names) (symbol_entries p)
symbols_below p known j e h = (symbol_stands p known j e h).known

-- two entries of one name, at their places
type_fault : (p : Parsed) → module_known p.«module» ≡ true → (at : ℕ) → EntryClash p.«module» (type_entries p) at → ClashFault p at
type_fault p known at c =
    let names = p.«module».names in
    let one = type_stands p known c.i c.one c.is_one in
    let other = type_stands p known c.j c.other c.is_other in
    record {
      one = place_of c.one.item;
      other = place_of c.other.item;
      one_spot = c.one.spot;
      other_spot = c.other.spot;
      one_at = one.spotted;
      other_at = other.spotted;
      later = c.later;
      clash = two_types (text_of names c.one.name.0) (λ e. c.apart (place_once _ _ e)) one.named (other.named ∙ ap (λ (n : ℕ). Some (text_of names n)) (sym c.same));
    }

symbol_fault : (p : Parsed) → module_known p.«module» ≡ true → (at : ℕ) → EntryClash p.«module» (symbol_entries p) at → ClashFault p at
symbol_fault p known at c =
    let names = p.«module».names in
    let one = symbol_stands p known c.i c.one c.is_one in
    let other = symbol_stands p known c.j c.other c.is_other in
    record {
      one = place_of c.one.item;
      other = place_of c.other.item;
      one_spot = c.one.spot;
      other_spot = c.other.spot;
      one_at = one.spotted;
      other_at = other.spotted;
      later = c.later;
      clash = two_symbols (text_of names c.one.name.0) (λ e. c.apart (place_once _ _ e)) one.named
          (other.named ∙ ap (λ (n : ℕ). Some (text_of names n)) (sym c.same)) c.no_twins;
    }

option_text : (a b : List ℕ) → ◌≡◌ {A = Option (List ℕ)} (Some a) (Some b) → a ≡ b
option_text a b e = cc

-- two items of one name, by their entries
entry_clash : (p : Parsed) → IsDistinct bytes_eq p.«module».names → (symbol : Place → Option (List ℕ)) (entries : List Entry)
    → ((j : ℕ) (e : Entry) → slice_get entries j ≡ Some e → Stands p symbol e) → (x y : Place) (i j : ℕ) (name : List ℕ) → symbol x ≡ Some name → symbol y ≡ Some name
    → (x ≡ y → ⊥) → (AreTwins (module_shape p.«module») x y → ⊥) → Entered entries x i → Entered entries y j → EntryClash p.«module» entries (max i j)
entry_clash p distinct symbol entries stand x y i j name at_x at_y apart no_twins v w =
    let names = p.«module».names in
    let one = stand v.among.0 v.e v.among.1 in
    let other = stand w.among.0 w.e w.among.1 in
    let one_name : text_of names v.e.name.0 ≡ name = option_text _ _ (sym one.named ∙ ap symbol v.at ∙ at_x) in
    let other_name : text_of names w.e.name.0 ≡ name = option_text _ _ (sym other.named ∙ ap symbol w.at ∙ at_y) in
    record {
      i = v.among.0;
      j = w.among.0;
      one = v.e;
      other = w.e;
      is_one = v.among.1;
      is_other = w.among.1;
      same = one_text names distinct v.e.name.0 w.e.name.0 one.known other.known (one_name ∙ sym other_name);
      apart = λ e. apart (sym v.at ∙ ap place_of e ∙ w.at);
      no_twins = λ t. no_twins (rw (v.at, w.at) at t);
      later = rw (v.spot, w.spot) refl;
    }

-- a clash of items is one of entries
fault_entry : (p : Parsed) → module_known p.«module» ≡ true → IsDistinct bytes_eq p.«module».names → (at : ℕ) → ClashFault p at
    → EntryClash p.«module» (type_entries p) at ⊎ EntryClash p.«module» (symbol_entries p) at
fault_entry p known distinct at f = by_kind f.clash
  where
    by_kind : Clash (module_shape p.«module») f.one f.other → EntryClash p.«module» (type_entries p) at ⊎ EntryClash p.«module» (symbol_entries p) at
    by_kind (two_types name apart one other) =
        let v = type_entered p f.one name f.one_spot one f.one_at in
        let w = type_entered p f.other name f.other_spot other f.other_at in
        inl (rw f.later (entry_clash p distinct (type_name_at (module_shape p.«module»)) (type_entries p) (type_stands p known) f.one f.other f.one_spot f.other_spot
        name one other apart (λ t. let no : None ≡ Some t.0 = sym v.1 ∙ t.2 in cc) v.0 w.0))
    by_kind (two_symbols name apart one other no_twins) =
        let v = symbol_entered p f.one name f.one_spot one f.one_at in
        let w = symbol_entered p f.other name f.other_spot other f.other_at in
        inr (rw f.later (entry_clash p distinct (symbol_at (module_shape p.«module»)) (symbol_entries p) (symbol_stands p known) f.one f.other f.one_spot f.other_spot
        name one other apart no_twins v w))

pub first_fault : (p : Parsed) → module_known p.«module» ≡ true → IsDistinct bytes_eq p.«module».names → (one other : Option ℕ)
    → IsFirst (EntryClash p.«module» (type_entries p)) one → IsFirst (EntryClash p.«module» (symbol_entries p)) other → IsFirst (ClashFault p) (first_of one other)
first_fault p known distinct =
    first_either (EntryClash p.«module» (type_entries p)) (EntryClash p.«module» (symbol_entries p)) (ClashFault p) (type_fault p known) (symbol_fault p known)
    (fault_entry p known distinct)
