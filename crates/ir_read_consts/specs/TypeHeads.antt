-- What the code's first look at a type stands for.
use Rattle.std.specs.Prelude.{ℕ, List}
use Rattle.ir_lex.specs.Meaning.{name_of}
use Rattle.ir_tree.specs.Shape.{integer, pointer, void, named}
use Rattle.ir_grammar_consts.specs.Types.{TyHead, WholeType, ArrayOpen, FieldsOpen, PackedOpen}
use Rattle.ir_read_consts.specs.declared.type_heads.Head.{Head}
use Rattle.ir_read_consts.specs.declared.type_heads.Head.TheVariants.{Integer, Pointer, Void, Named, Array, Fields, Packed}

abbrev pub head_from : List ℕ → Head → TyHead
head_from text (Integer bits) = WholeType (integer bits)
head_from text Pointer = WholeType pointer
head_from text Void = WholeType void
head_from text (Named t) = WholeType (named (name_of text t))
head_from text Array = ArrayOpen
head_from text Fields = FieldsOpen
head_from text Packed = PackedOpen
