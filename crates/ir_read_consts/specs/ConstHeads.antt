-- What the code's first look at a constant stands for.
use Rattle.std.specs.Prelude.{ℕ, List}
use Rattle.ir_lex.specs.Meaning.{name_of, text_spelling, unescaped}
use Rattle.ir_tree.specs.Shape.{number, boolean, null, undef, poison, zero_value, text, global}
use Rattle.ir_grammar_consts.specs.Constants.{ConstHead, WholeConst, ElementsOpen, ValuesOpen, PackedValuesOpen, AddressOpen}
use Rattle.ir_read_consts.specs.declared.const_heads.Head.{Head}
use Rattle.ir_read_consts.specs.declared.const_heads.Head.TheVariants.{Number, Boolean, Null, Undef, Poison, Zero, Text, Named, Elements, Fields, Packed, Address}

abbrev pub head_from : List ℕ → Head → ConstHead
head_from source (Number z) = WholeConst (number z)
head_from source (Boolean b) = WholeConst (boolean b)
head_from source Null = WholeConst null
head_from source Undef = WholeConst undef
head_from source Poison = WholeConst poison
head_from source Zero = WholeConst zero_value
head_from source (Text t) = WholeConst (text (unescaped (text_spelling source t)))
head_from source (Named t) = WholeConst (global (name_of source t))
head_from source Elements = ElementsOpen
head_from source Fields = ValuesOpen
head_from source Packed = PackedValuesOpen
head_from source Address = AddressOpen
