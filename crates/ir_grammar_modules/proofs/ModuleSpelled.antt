-- The spelling of a module is a word of the grammar.
use Rattle.std.proofs.Common.{◌≡◌, ℕ, Bool, true, false, List, [], ◌∷◌, ◌++◌, map, Option, None, Some, inl, inr, refl, sym, ◌∙◌, ap, subst, append_assoc}
use Rattle.std.specs.List.{All}
use Rattle.std.proofs.lemmas.List.{append-nil}
use Rattle.std.proofs.lemmas.List.Elements.{All-nil, All-cons, All-head, All-tail}
use Rattle.grammar.specs.Language.{mark, maybe, many, one}
use Rattle.ir_tree.specs.Shape.{TyShape, InstShape, BlockShape, ParamShape, FunctionShape, GlobalShape, DeclareShape, NamedTyShape, ModuleShape}
use Rattle.ir_words.specs.declared.words.Keyword.TheVariants.{«Type», Declare, Define}
use Rattle.ir_lex.specs.Symbols.{Symbol, KeywordSymbol, LocalSymbol, GlobalSymbol, LabelSymbol, MarkSymbol}
use Rattle.ir_grammar_consts.specs.Spelling.{ty_spelling, const_spelling, FitsTy}
use Rattle.ir_grammar_consts.proofs.TypeSpelled.{closed, spelled_ty}
use Rattle.ir_grammar_consts.proofs.ConstSpelled.{spelled_const}
use Rattle.ir_grammar_insts.specs.Spelling.{body_spelling, in_a_row, with_commas}
use Rattle.ir_grammar_insts.proofs.OperandSpelled.{spelled_row, spelled_listed, spelled_until}
use Rattle.ir_grammar_insts.proofs.InstSpelled.{spelled_phi, spelled_inst}
use Rattle.ir_grammar_insts.proofs.TermSpelled.{spelled_term}
use Rattle.ir_grammar_insts.specs.Operands.{local_name}
use Rattle.ir_grammar_modules.specs.Blocks.{result, phi_line, inst_line, last_of, lines, block}
use Rattle.ir_grammar_modules.specs.Items.{ItemShape, type_item, global_item, declare_item, function_item, constancy, parameter, signature, blocks, item}
use Rattle.ir_grammar_modules.specs.Modules.{with_item, module_of, whole_module}
use Rattle.ir_grammar_modules.specs.Spelling.{result_spelling, line_spelling, block_spelling, name_spelling, parameter_spelling, signature_spelling, without_name, constancy_word, type_spelling, global_spelling, declare_spelling, function_spelling, module_spelling, FitsPhiLine, FitsInstLine, FitLines, FitsBlock, FitBlocks, FitsParam, FitsType, FitsGlobal, FitsDeclare, FitsFunction, FitsModule}

-- lists in a row are one row
row_join : {V : Type 0} (spelling : V → List Symbol) (xs ys : List V) → in_a_row spelling (xs ++ ys) ≡ in_a_row spelling xs ++ in_a_row spelling ys
row_join spelling [] ys = refl
row_join spelling (x ∷ xs) ys =
    ap (λ z. spelling x ++ z) (row_join spelling xs ys) ∙ sym (append_assoc (spelling x) (in_a_row spelling xs) (in_a_row spelling ys))

spelled_result : (name : Option (List ℕ)) → maybe result (result_spelling name) name
spelled_result None = refl
spelled_result (Some name) = ((name, mark), (LocalSymbol name ∷ [], MarkSymbol 61 ∷ [], refl, (LocalSymbol name, [], name, refl, refl, (refl, refl)), closed 61 refl), refl)

spelled_phi_line : (v : InstShape) → FitsPhiLine v → phi_line (line_spelling v) v
spelled_phi_line v h = ((v.result, v.body), (result_spelling v.result, body_spelling v.body, refl, spelled_result v.result, spelled_phi v.body h), refl)

spelled_inst_line : (v : InstShape) → FitsInstLine v → inst_line (line_spelling v) v
spelled_inst_line v h = ((v.result, v.body), (result_spelling v.result, body_spelling v.body, refl, spelled_result v.result, spelled_inst v.body h), refl)

spelled_lines : (insts : List InstShape) → FitLines insts → lines (in_a_row line_spelling insts) insts
spelled_lines insts g =
    let front : List Symbol = in_a_row line_spelling g.phis in
    let others : List Symbol = in_a_row line_spelling g.others in
    let last : List Symbol = body_spelling g.last in
    let whole : in_a_row line_spelling insts ≡ front ++ (others ++ last) =
    ap (in_a_row line_spelling) g.cut ∙ row_join line_spelling g.phis (g.others ++ last_of g.last)
    ∙ ap (λ z. front ++ z) (row_join line_spelling g.others (last_of g.last)) ∙ ap (λ z. front ++ (others ++ z)) (append-nil last) in (
      (g.phis, g.others ++ last_of g.last),
      (
        front,
        others ++ last,
        whole,
        spelled_row phi_line line_spelling FitsPhiLine spelled_phi_line g.phis g.fit_phis,
        (
          (g.others, last_of g.last),
          (others, last, refl, spelled_row inst_line line_spelling FitsInstLine spelled_inst_line g.others g.fit_others, (g.last, spelled_term g.last g.fits_last, refl)),
          refl,
        ),
      ),
      g.cut,
    )

spelled_block : (v : BlockShape) → FitsBlock v → block (block_spelling v) v
spelled_block v h =
    ((v.name, v.insts), (LabelSymbol v.name ∷ [], in_a_row line_spelling v.insts, refl, (LabelSymbol v.name, [], v.name, refl, refl, (refl, refl)), spelled_lines v.insts h), refl)

spelled_name : (name : Option (List ℕ)) → maybe (one local_name) (name_spelling name) name
spelled_name None = refl
spelled_name (Some name) = (LocalSymbol name, [], name, refl, refl, (refl, refl))

spelled_parameter : (v : ParamShape) → FitsParam v → parameter (parameter_spelling v) v
spelled_parameter v h = ((v.ty, v.name), (ty_spelling v.ty, name_spelling v.name, refl, spelled_ty v.ty h, spelled_name v.name), refl)

spelled_signature : (ret : TyShape) (name : List ℕ) (row : List ParamShape) → FitsTy ret → All FitsParam row → signature (signature_spelling ret name row) (ret, (name, row))
spelled_signature ret name row h fits =
    let last : List Symbol = with_commas parameter_spelling row ++ MarkSymbol 41 ∷ [] in (
      ty_spelling ret,
      GlobalSymbol name ∷ MarkSymbol 40 ∷ last,
      refl,
      spelled_ty ret h,
      (
        GlobalSymbol name ∷ [],
        MarkSymbol 40 ∷ last,
        refl,
        (GlobalSymbol name, [], name, refl, refl, (refl, refl)),
        (MarkSymbol 40, last, mark, refl, refl, spelled_listed parameter parameter_spelling FitsParam spelled_parameter 41 refl row fits),
      ),
    )

spelled_constancy : (constant : Bool) → one constancy (KeywordSymbol (constancy_word constant) ∷ []) constant
spelled_constancy true = (KeywordSymbol (constancy_word true), [], true, refl, refl, (refl, refl))
spelled_constancy false = (KeywordSymbol (constancy_word false), [], false, refl, refl, (refl, refl))

spelled_type : (v : NamedTyShape) → FitsType v → item (type_spelling v) (type_item v)
spelled_type v h =
    let last : List Symbol = KeywordSymbol «Type» ∷ ty_spelling v.ty in
    inl (
      (v.name, v.ty),
      (
        LocalSymbol v.name ∷ [],
        MarkSymbol 61 ∷ last,
        refl,
        (LocalSymbol v.name, [], v.name, refl, refl, (refl, refl)),
        (MarkSymbol 61, last, mark, refl, refl, (KeywordSymbol «Type», ty_spelling v.ty, mark, refl, refl, spelled_ty v.ty h)),
      ),
      refl,
    )

spelled_global : (v : GlobalShape) → FitsGlobal v → item (global_spelling v) (global_item v)
spelled_global v h =
    let value : List Symbol = ty_spelling v.ty ++ const_spelling v.init in
    let last : List Symbol = KeywordSymbol (constancy_word v.constant) ∷ value in
    inr (inl (
      (v.name, (v.constant, (v.ty, v.init))),
      (
        GlobalSymbol v.name ∷ [],
        MarkSymbol 61 ∷ last,
        refl,
        (GlobalSymbol v.name, [], v.name, refl, refl, (refl, refl)),
        (
          MarkSymbol 61,
          last,
          mark,
          refl,
          refl,
          (
            KeywordSymbol (constancy_word v.constant) ∷ [],
            value,
            refl,
            spelled_constancy v.constant,
            (ty_spelling v.ty, const_spelling v.init, refl, spelled_ty v.ty h.0, spelled_const v.init h.1),
          ),
        ),
      ),
      refl,
    ))

fit_without_names : (row : List TyShape) → All FitsTy row → All FitsParam (map without_name row)
fit_without_names [] h = All-nil FitsParam
fit_without_names (t ∷ row) h = All-cons FitsParam (without_name t) (map without_name row) (All-head FitsTy t row h) (fit_without_names row (All-tail FitsTy t row h))

types_again : (row : List TyShape) → row ≡ map (λ p. p.ty) (map without_name row)
types_again [] = refl
types_again (t ∷ row) = ap (λ z. t ∷ z) (types_again row)

spelled_declare : (v : DeclareShape) → FitsDeclare v → item (declare_spelling v) (declare_item v)
spelled_declare v h =
    let row : List ParamShape = map without_name v.params in
    inr (inr (inl (
      KeywordSymbol Declare,
      signature_spelling v.ret v.name row,
      mark,
      refl,
      refl,
      (
        (v.ret, (v.name, row)),
        spelled_signature v.ret v.name row h.0 (fit_without_names v.params h.1),
        ap (λ z. declare_item (record { name = v.name; ret = v.ret; params = z })) (types_again v.params),
      ),
    )))

spelled_blocks : (v : BlockShape) (vs : List BlockShape) → FitsBlock v → All FitsBlock vs
    → blocks (in_a_row block_spelling (v ∷ vs) ++ MarkSymbol 125 ∷ []) ((Some v.name, v.insts), vs)
spelled_blocks v vs h fits =
    let last : List Symbol = in_a_row block_spelling vs ++ MarkSymbol 125 ∷ [] in (
      block_spelling v,
      last,
      append_assoc (block_spelling v) (in_a_row block_spelling vs) (MarkSymbol 125 ∷ []),
      (LabelSymbol v.name ∷ [], in_a_row line_spelling v.insts, refl, (LabelSymbol v.name, [], v.name, refl, refl, (refl, refl)), spelled_lines v.insts h),
      spelled_until block block_spelling FitsBlock spelled_block 125 refl vs fits,
    )

spelled_function_at : (name : List ℕ) (ret : TyShape) (row : List ParamShape) (bs : List BlockShape)
    → FitsTy ret → All FitsParam row → FitBlocks bs
    → item (function_spelling (record { name = name; ret = ret; params = row; blocks = bs })) (function_item (record { name = name; ret = ret; params = row; blocks = bs }))
spelled_function_at name ret row [] h fits none_there = absurd none_there
spelled_function_at name ret row (v ∷ vs) h fits each =
    let body : List Symbol = in_a_row block_spelling (v ∷ vs) ++ MarkSymbol 125 ∷ [] in
    inr (inr (inr (
      KeywordSymbol Define,
      signature_spelling ret name row ++ MarkSymbol 123 ∷ body,
      mark,
      refl,
      refl,
      (
        ((ret, (name, row)), ((Some v.name, v.insts), vs)),
        (
          signature_spelling ret name row,
          MarkSymbol 123 ∷ body,
          refl,
          spelled_signature ret name row h fits,
          (MarkSymbol 123, body, mark, refl, refl, spelled_blocks v vs each.0 each.1),
        ),
        refl,
      ),
    )))

spelled_function : (v : FunctionShape) → FitsFunction v → item (function_spelling v) (function_item v)
spelled_function v h = spelled_function_at v.name v.ret v.params v.blocks h.0 h.1 h.2

-- items of one kind in a row, and others after them
spelled_kind : {V : Type 0} (of : V → ItemShape) (spelling : V → List Symbol) (P : V → Type 0) → ((v : V) → P v → item (spelling v) (of v))
    → (vs : List V) → All P vs → (ts : List Symbol) (us : List ItemShape) → many item ts us → many item (in_a_row spelling vs ++ ts) (map of vs ++ us)
spelled_kind of spelling P each [] h ts us word = word
spelled_kind of spelling P each (v ∷ vs) h ts us word = (
  spelling v,
  in_a_row spelling vs ++ ts,
  append_assoc (spelling v) (in_a_row spelling vs) ts,
  each v (All-head P v vs h),
  spelled_kind of spelling P each vs (All-tail P v vs h) ts us word,
)

types_in : (vs : List NamedTyShape) (us : List ItemShape) → module_of (map type_item vs ++ us)
    ≡ record { types = vs ++ (module_of us).types; globals = (module_of us).globals; declares = (module_of us).declares; functions = (module_of us).functions }
types_in [] us = refl
types_in (v ∷ vs) us = ap (with_item (type_item v)) (types_in vs us)

globals_in : (vs : List GlobalShape) (us : List ItemShape) → module_of (map global_item vs ++ us)
    ≡ record { types = (module_of us).types; globals = vs ++ (module_of us).globals; declares = (module_of us).declares; functions = (module_of us).functions }
globals_in [] us = refl
globals_in (v ∷ vs) us = ap (with_item (global_item v)) (globals_in vs us)

declares_in : (vs : List DeclareShape) (us : List ItemShape) → module_of (map declare_item vs ++ us)
    ≡ record { types = (module_of us).types; globals = (module_of us).globals; declares = vs ++ (module_of us).declares; functions = (module_of us).functions }
declares_in [] us = refl
declares_in (v ∷ vs) us = ap (with_item (declare_item v)) (declares_in vs us)

functions_in : (vs : List FunctionShape) → module_of (map function_item vs ++ []) ≡ record { types = []; globals = []; declares = []; functions = vs }
functions_in [] = refl
functions_in (v ∷ vs) = ap (with_item (function_item v)) (functions_in vs)

abbrev items_of : ModuleShape → List ItemShape
items_of m = map type_item m.types ++ (map global_item m.globals ++ (map declare_item m.declares ++ (map function_item m.functions ++ [])))

items_again : (m : ModuleShape) → module_of (items_of m) ≡ m
items_again m =
    let one : List ItemShape = map function_item m.functions ++ [] in
    let two : List ItemShape = map declare_item m.declares ++ one in
    let three : List ItemShape = map global_item m.globals ++ two in
    let first : module_of one ≡ record { types = []; globals = []; declares = []; functions = m.functions } = functions_in m.functions in
    let second : module_of two ≡ record { types = []; globals = []; declares = m.declares; functions = m.functions } =
    declares_in m.declares one ∙ ap (λ z. record { types = z.types; globals = z.globals; declares = m.declares ++ z.declares; functions = z.functions }) first
    ∙ ap (λ z. record { types = []; globals = []; declares = z; functions = m.functions }) (append-nil m.declares) in
    let third : module_of three ≡ record { types = []; globals = m.globals; declares = m.declares; functions = m.functions } =
    globals_in m.globals two ∙ ap (λ z. record { types = z.types; globals = m.globals ++ z.globals; declares = z.declares; functions = z.functions }) second
    ∙ ap (λ z. record { types = []; globals = z; declares = m.declares; functions = m.functions }) (append-nil m.globals) in
    types_in m.types three ∙ ap (λ z. record { types = m.types ++ z.types; globals = z.globals; declares = z.declares; functions = z.functions }) third
    ∙ ap (λ z. record { types = z; globals = m.globals; declares = m.declares; functions = m.functions }) (append-nil m.types)

pub spelled_module : (m : ModuleShape) → FitsModule m → whole_module (module_spelling m) m
spelled_module m h =
    let functions = spelled_kind function_item function_spelling FitsFunction spelled_function m.functions h.fit_functions [] [] refl in
    let declares = spelled_kind declare_item declare_spelling FitsDeclare spelled_declare m.declares h.fit_declares _ _ functions in
    let globals = spelled_kind global_item global_spelling FitsGlobal spelled_global m.globals h.fit_globals _ _ declares in
    let types = spelled_kind type_item type_spelling FitsType spelled_type m.types h.fit_types _ _ globals in
    let same : in_a_row function_spelling m.functions ++ [] ≡ in_a_row function_spelling m.functions = append-nil (in_a_row function_spelling m.functions) in
    let whole : many item (module_spelling m) (items_of m) =
    subst (λ z. many item (in_a_row type_spelling m.types ++ (in_a_row global_spelling m.globals ++ (in_a_row declare_spelling m.declares ++ z))) (items_of m)) same types in
    (items_of m, whole, sym (items_again m))
