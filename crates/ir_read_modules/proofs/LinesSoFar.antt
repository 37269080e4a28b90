-- The lines so far: their names are known, and the tokens up to the next line are theirs.
use Rattle.std.proofs.Common.{◌≡◌, ℕ, suc, false, ◌+◌, ◌<◌, ◌≤◌, true, List, [], ◌∷◌, ◌++◌, length, map, drop, None, inl, inr, refl, sym, ◌∙◌, ap, subst, arith}
use Rattle.std.specs.List.{slice_range, list_all}
use Rattle.grammar.specs.Language.{cons}
use Rattle.grammar.specs.Reader.{Got, Wrong, heads, opens, run_seq, run_map}
use Rattle.grammar.proofs.Loops.{after_none}
use Rattle.grammar.specs.Code.{Stops}
use Rattle.grammar.specs.declared.Stop.{Stop}
use Rattle.grammar.specs.declared.Stop.TheVariants.{WrongSymbol, OutOfMemory}
use Rattle.grammar.proofs.Good.{Starts}
use Rattle.grammar.proofs.Sides.{starts_pick, starts_map, starts_maybe, starts_more}
use Rattle.ir_lex.specs.Symbols.{Symbol, symbols_of}
use Rattle.ir_lex.specs.declared.token.Token.{Token}
use Rattle.ir_tree.specs.NameTable.{Grows}
use Rattle.ir_tree.specs.Shape.{BodyShape, InstShape}
use Rattle.ir_tree.specs.ShapeOf.{body_shape, inst_shape}
use Rattle.ir_tree.specs.Known.{inst_known}
use Rattle.ir_tree.specs.declared.module.Inst.{Inst}
use Rattle.ir_tree.specs.declared.module.Body.{Body}
use Rattle.ir_tree.proofs.GrowsModule.{inst_shape-append, inst_known-more}
use Rattle.ir_tree.proofs.Table.{grows_on, grows_same}
use Rattle.ir_read_consts.proofs.NamedItems.{Keeps, known_more, shapes_more}
use Rattle.ir_grammar_insts.specs.Terminators.{term_head, term, run_term}
use Rattle.ir_grammar_modules.specs.Blocks.{line_of, phi_line, begins_inst, run_inst_line, run_last_line, run_after_phis, run_lines}
use Rattle.ir_grammar_modules.proofs.BlockLaw.{starts_result, starts_phi, starts_inst_line}
use Rattle.ir_read_modules.specs.Lines.{is_phi_line, run_phi_line, run_others, lines_after, AreLinesAt}
use Rattle.ir_read_modules.specs.Spots.{start_of, InPieces, IsLineAt}
use Rattle.ir_read_modules.specs.BlockShapes.{lines_shape, lines_known}
use Rattle.ir_read_modules.specs.declared.blocks.Lines.{Lines}
use Rattle.ir_read_modules.proofs.LineByLine.{lines_with_phi, lines_without_phi, no_lines, line_then, line_wrong, rest_by, rest_next, rest_wrong, rest_last, rest_end}
use Rattle.ir_read_modules.proofs.SoundLines.{sound_phi_line, sound_inst_line, sound_term}
use Rattle.ir_read_modules.proofs.Pieces.{pieces_more, slices_joined, no_slice, slice_spelled, goes_past, start_of_slice}

pub insts_keep : Keeps inst_shape inst_known
insts_keep = record { same = inst_shape-append; stays = inst_known-more }

-- the tokens from at to next are a line, which begins at the spot of the first
pub record LineBetween (text : List ℕ) (toks : List Token) (at next : ℕ) (v : InstShape) : Type 0 where
  pub past : at < next
  pub is_line : IsLineAt text (slice_range toks at next) v (start_of (drop at toks))

starts_phi_line : Starts (λ t. true) phi_line
starts_phi_line = starts_map line_of (starts_maybe (starts_more _ (λ t h. refl) starts_result) (starts_more _ (λ t h. refl) starts_phi))

pub phi_between : (n : ℕ) (text : List ℕ) (toks : List Token) (at next : ℕ) (v : InstShape) → at ≤ length (symbols_of text toks) → next ≤ length (symbols_of text toks)
    → run_phi_line n (drop at (symbols_of text toks)) ≡ Got v (drop next (symbols_of text toks)) → LineBetween text toks at next v
phi_between n text toks at next v h k e =
    let past : at < next = goes_past (sound_phi_line n) starts_phi_line (symbols_of text toks) at next v h k e in
    record { past = past; is_line = (inl (slice_spelled (sound_phi_line n) text toks at next v h k e), sym (start_of_slice toks at next past)) }

pub inst_between : (n : ℕ) (text : List ℕ) (toks : List Token) (at next : ℕ) (v : InstShape) → at ≤ length (symbols_of text toks) → next ≤ length (symbols_of text toks)
    → run_inst_line n (drop at (symbols_of text toks)) ≡ Got v (drop next (symbols_of text toks)) → LineBetween text toks at next v
inst_between n text toks at next v h k e =
    let past : at < next = goes_past (sound_inst_line n) starts_inst_line (symbols_of text toks) at next v h k e in
    record { past = past; is_line = (inr (inl (slice_spelled (sound_inst_line n) text toks at next v h k e)), sym (start_of_slice toks at next past)) }

starts_term : Starts (heads term_head) term
starts_term = starts_pick term_head _

pub term_between : (n : ℕ) (text : List ℕ) (toks : List Token) (at next : ℕ) (v : BodyShape) → at ≤ length (symbols_of text toks) → next ≤ length (symbols_of text toks)
    → run_term n (drop at (symbols_of text toks)) ≡ Got v (drop next (symbols_of text toks)) → LineBetween text toks at next (line_of (None, v))
term_between n text toks at next v h k e =
    let past : at < next = goes_past (sound_term n) starts_term (symbols_of text toks) at next v h k e in
    record { past = past; is_line = (inr (inr (v, slice_spelled (sound_term n) text toks at next v h k e, refl)), sym (start_of_slice toks at next past)) }

-- one line more
pub lines_more_at : {old new : List (List ℕ)} → Grows old new → (text : List ℕ) (toks : List Token) (from at next : ℕ) (xs : List Inst) (spots : List ℕ) (x : Inst)
    → list_all (inst_known (length old)) xs ≡ true → AreLinesAt text toks from at (map (inst_shape old) xs) spots → LineBetween text toks at next (inst_shape new x)
    → AreLinesAt text toks from next (map (inst_shape new) (xs ++ x ∷ [])) (spots ++ start_of (drop at toks) ∷ [])
lines_more_at {old = old} {new = new} g text toks from at next xs spots x h lines line =
    let ks : List ℕ = spots ++ start_of (drop at toks) ∷ [] in
    let apart : InPieces (IsLineAt text) (slice_range toks from at ++ slice_range toks at next) (map (inst_shape old) xs ++ inst_shape new x ∷ []) ks =
    pieces_more (IsLineAt text) (map (inst_shape old) xs) spots (slice_range toks from at) (slice_range toks at next) (inst_shape new x) (start_of (drop at toks)) lines.1 line.is_line in
    let whole : slice_range toks from next ≡ slice_range toks from at ++ slice_range toks at next = slices_joined toks from at next lines.0 (omega (arith, line.past)) in
    let shapes : map (inst_shape old) xs ++ inst_shape new x ∷ [] ≡ map (inst_shape new) (xs ++ x ∷ []) = shapes_more insts_keep g xs h x in (
      omega (arith, line.past, lines.0),
      subst (λ z. InPieces (IsLineAt text) z (map (inst_shape new) (xs ++ x ∷ [])) ks) (sym whole)
          (subst (λ z. InPieces (IsLineAt text) (slice_range toks from at ++ slice_range toks at next) z ks) shapes apart),
    )

-- what holds as the lines are read: start says from where they may begin
pub record SoFar (text : List ℕ) (toks : List Token) (start : ℕ → Type 0) (old names : List (List ℕ)) (lines : Lines) (at next : ℕ) : Type 0 where
  pub grows : Grows old names
  pub count : length names + at ≤ length old + next
  pub within : next ≤ length (symbols_of text toks)
  pub all_known : lines_known (length names) lines ≡ true
  pub pieces : (from : ℕ) → start from → AreLinesAt text toks from next (lines_shape names lines) lines.spots.items

pub so_far_more : {text : List ℕ} {toks : List Token} {start : ℕ → Type 0} {old names new : List (List ℕ)} {lines : Lines} {at next : ℕ}
    → SoFar text toks start old names lines at next → Grows names new → (x : Inst) → inst_known (length new) x ≡ true
    → (past : ℕ) → length new + next ≤ length names + past → past ≤ length (symbols_of text toks) → LineBetween text toks next past (inst_shape new x)
    → (more : Lines) → more.insts.items ≡ lines.insts.items ++ x ∷ [] → more.spots.items ≡ lines.spots.items ++ start_of (drop next toks) ∷ []
    → SoFar text toks start old new more at past
so_far_more {text = text} {toks = toks} {new = new} {lines = lines} {next = next} g grows x fits past count le line more insts spots = record {
  grows = grows_on g.grows grows;
  count = omega (arith, g.count);
  within = le;
  all_known = rw insts (known_more insts_keep grows lines.insts.items g.all_known x fits);
  pieces = λ from s.
      let whole : AreLinesAt text toks from past (map (inst_shape new) (lines.insts.items ++ x ∷ [])) (lines.spots.items ++ start_of (drop next toks) ∷ []) =
      lines_more_at grows text toks from next past lines.insts.items lines.spots.items x g.all_known (g.pieces from s) line in
      subst (λ z. AreLinesAt text toks from past (map (inst_shape new) z) more.spots.items) (sym insts)
      (subst (λ z. AreLinesAt text toks from past (map (inst_shape new) (lines.insts.items ++ x ∷ [])) z) (sym spots) whole);
}

pub so_far_start : (text : List ℕ) (toks : List Token) (names : List (List ℕ)) (lines : Lines) (at : ℕ) → at ≤ length (symbols_of text toks) → lines_known (length names) lines ≡ true
    → SoFar text toks (λ from. AreLinesAt text toks from at (lines_shape names lines) lines.spots.items) names names lines at at
so_far_start text toks names lines at h k = record {
  grows = grows_same names;
  count = omega arith;
  within = h;
  all_known = k;
  pieces = λ from s. s;
}

-- before the first line
pub so_far_none : (text : List ℕ) (toks : List Token) (names : List (List ℕ)) (lines : Lines) (at : ℕ) → at ≤ length (symbols_of text toks)
    → lines.insts.items ≡ [] → lines.spots.items ≡ [] → SoFar text toks (λ from. from ≡ at) names names lines at at
so_far_none text toks names lines at h insts spots = record {
  grows = grows_same names;
  count = omega arith;
  within = h;
  all_known = rw insts refl;
  pieces = λ from s. subst (λ z. AreLinesAt text toks z at (lines_shape names lines) lines.spots.items) (sym s) (omega arith, rw (insts, spots) (no_slice toks at));
}

-- the shapes of the lines with one more
pub front_more : {old new : List (List ℕ)} → Grows old new → (lines more : Lines) (x : Inst) → lines_known (length old) lines ≡ true
    → more.insts.items ≡ lines.insts.items ++ x ∷ [] → lines_shape old lines ++ inst_shape new x ∷ [] ≡ lines_shape new more
front_more {new = new} g lines more x h insts = shapes_more insts_keep g lines.insts.items h x ∙ ap (map (inst_shape new)) (sym insts)

-- the terminator was read
pub last_read : {old new : List (List ℕ)} → Grows old new → (n : ℕ) (ts rest : List Symbol) (lines more : Lines) (body : Body) → lines_known (length old) lines ≡ true
    → run_term n ts ≡ Got (body_shape new body) rest → more.insts.items ≡ lines.insts.items ++ (record { result = None; body = body }) ∷ []
    → lines_after (lines_shape old lines) (run_last_line n ts) ≡ Got (lines_shape new more) rest
last_read {old = old} {new = new} g n ts rest lines more body h e insts =
    rw e (ap (λ z. Got z rest) (front_more g lines more (record { result = None; body = body }) h insts))

-- the lines so far and the instructions to come, at most m of them, and the terminator are the whole
pub record InstsLeft (text : List ℕ) (toks : List Token) (n m : ℕ) (old names : List (List ℕ)) (before lines : Lines) (at next : ℕ) : Type 0 where
  pub so_far : SoFar text toks (λ from. AreLinesAt text toks from at (lines_shape old before) before.spots.items) old names lines at next
  pub same : lines_after (lines_shape old before) (run_after_phis n (drop at (symbols_of text toks)))
      ≡ lines_after (lines_shape names lines) (rest_by m begins_inst (run_inst_line n) (run_last_line n) (drop next (symbols_of text toks)))

pub insts_start : (text : List ℕ) (toks : List Token) (n : ℕ) (names : List (List ℕ)) (lines : Lines) (at : ℕ) → at ≤ length (symbols_of text toks)
    → lines_known (length names) lines ≡ true → InstsLeft text toks n n names names lines lines at at
insts_start text toks n names lines at h k = record { so_far = so_far_start text toks names lines at h k; same = refl }

pub insts_go_on : {text : List ℕ} {toks : List Token} {n m : ℕ} {old names new : List (List ℕ)} {before lines : Lines} {at next : ℕ} (k : ℕ)
    → InstsLeft text toks n m old names before lines at next → m ≡ suc k → opens begins_inst (drop next (symbols_of text toks)) ≡ true
    → Grows names new → (x : Inst) → inst_known (length new) x ≡ true → (past : ℕ) → length new + next ≤ length names + past
    → run_inst_line n (drop next (symbols_of text toks)) ≡ Got (inst_shape new x) (drop past (symbols_of text toks)) → past ≤ length (symbols_of text toks)
    → (more : Lines) → more.insts.items ≡ lines.insts.items ++ x ∷ [] → more.spots.items ≡ lines.spots.items ++ start_of (drop next toks) ∷ []
    → InstsLeft text toks n k old new before more at past
insts_go_on {text = text} {toks = toks} {n = n} {names = names} {new = new} {lines = lines} {next = next} k g e begins grows x fits past count read le more insts spots = record {
  so_far = so_far_more g.so_far grows x fits past count le (inst_between n text toks next past (inst_shape new x) g.so_far.within le read) more insts spots;
  same = g.same ∙ ap (λ z. lines_after (lines_shape names lines) (rest_by z begins_inst (run_inst_line n) (run_last_line n) (drop next (symbols_of text toks)))) e
      ∙ rest_next k begins_inst (run_inst_line n) (run_last_line n) (lines_shape names lines) (drop next (symbols_of text toks)) (drop past (symbols_of text toks)) (inst_shape new x) begins read
      ∙ ap (λ z. lines_after z (rest_by k begins_inst (run_inst_line n) (run_last_line n) (drop past (symbols_of text toks)))) (front_more grows lines more x g.so_far.all_known insts);
}

pub insts_stop : {text : List ℕ} {toks : List Token} {n m : ℕ} {old names : List (List ℕ)} {before lines : Lines} {at next : ℕ} (k : ℕ)
    → InstsLeft text toks n m old names before lines at next → m ≡ suc k → opens begins_inst (drop next (symbols_of text toks)) ≡ true
    → (e : Stop) → Stops (symbols_of text toks) e (run_inst_line n (drop next (symbols_of text toks)))
    → Stops (symbols_of text toks) e (lines_after (lines_shape old before) (run_after_phis n (drop at (symbols_of text toks))))
insts_stop {text = text} {toks = toks} {n = n} {names = names} {lines = lines} {next = next} k g e begins (WrongSymbol j) d = (
  g.same ∙ ap (λ z. lines_after (lines_shape names lines) (rest_by z begins_inst (run_inst_line n) (run_last_line n) (drop next (symbols_of text toks)))) e
      ∙ rest_wrong k begins_inst (run_inst_line n) (run_last_line n) (lines_shape names lines) (drop next (symbols_of text toks)) (drop j (symbols_of text toks)) begins d.0,
  d.1,
)
insts_stop k g e begins OutOfMemory d = tt

-- the terminator comes next
pub insts_last : {text : List ℕ} {toks : List Token} {n m : ℕ} {old names : List (List ℕ)} {before lines : Lines} {at next : ℕ}
    → InstsLeft text toks n m old names before lines at next → opens begins_inst (drop next (symbols_of text toks)) ≡ false
    → lines_after (lines_shape names lines) (run_last_line n (drop next (symbols_of text toks)))
    ≡ lines_after (lines_shape old before) (run_after_phis n (drop at (symbols_of text toks)))
insts_last {text = text} {toks = toks} {n = n} {m = m} {names = names} {lines = lines} {next = next} g begins =
    sym (g.same ∙ ap (lines_after (lines_shape names lines)) (rest_last m begins_inst (run_inst_line n) (run_last_line n) (drop next (symbols_of text toks)) begins))

pub insts_end : {text : List ℕ} {toks : List Token} {n m : ℕ} {old names : List (List ℕ)} {before lines : Lines} {at next : ℕ}
    → InstsLeft text toks n m old names before lines at next → m ≡ 0
    → lines_after (lines_shape names lines) (run_last_line n (drop next (symbols_of text toks)))
    ≡ lines_after (lines_shape old before) (run_after_phis n (drop at (symbols_of text toks)))
insts_end {text = text} {toks = toks} {n = n} {names = names} {lines = lines} {next = next} g e =
    sym (g.same ∙ ap (λ z. lines_after (lines_shape names lines) (rest_by z begins_inst (run_inst_line n) (run_last_line n) (drop next (symbols_of text toks)))) e
    ∙ ap (lines_after (lines_shape names lines)) (rest_end begins_inst (run_inst_line n) (run_last_line n) (drop next (symbols_of text toks))))

-- one instruction after lines
pub inst_after : (text : List ℕ) (toks : List Token) (n at next : ℕ) {old new : List (List ℕ)} → Grows old new → (lines more : Lines) (x : Inst)
    → at ≤ length (symbols_of text toks) → lines_known (length old) lines ≡ true → inst_known (length new) x ≡ true → length new + at ≤ length old + next
    → run_inst_line n (drop at (symbols_of text toks)) ≡ Got (inst_shape new x) (drop next (symbols_of text toks)) → next ≤ length (symbols_of text toks)
    → more.insts.items ≡ lines.insts.items ++ x ∷ [] → more.spots.items ≡ lines.spots.items ++ start_of (drop at toks) ∷ []
    → SoFar text toks (λ from. AreLinesAt text toks from at (lines_shape old lines) lines.spots.items) old new more at next
inst_after text toks n at next {old = old} {new = new} g lines more x h known fits count read le insts spots =
    so_far_more (so_far_start text toks old lines at h known) g x fits next count le (inst_between n text toks at next (inst_shape new x) h le read) more insts spots

-- the first line after the phis is an instruction, and others follow
pub others_go_on : {old new : List (List ℕ)} → Grows old new → (n : ℕ) (ts q : List Symbol) (lines more : Lines) (x : Inst) → lines_known (length old) lines ≡ true
    → opens begins_inst ts ≡ true → run_inst_line n ts ≡ Got (inst_shape new x) q → more.insts.items ≡ lines.insts.items ++ x ∷ []
    → lines_after (lines_shape new more) (run_after_phis n q) ≡ lines_after (lines_shape old lines) (run_others n ts)
others_go_on {old = old} {new = new} g n ts q lines more x h begins read insts =
    let step : lines_after (lines_shape old lines) (run_map cons (run_seq (run_inst_line n) (run_after_phis n)) ts) ≡ lines_after (lines_shape old lines ++ inst_shape new x ∷ []) (run_after_phis n q) =
    line_then (run_inst_line n) (run_after_phis n) (lines_shape old lines) ts q (inst_shape new x) read in
    rw begins (sym (step ∙ ap (λ z. lines_after z (run_after_phis n q)) (front_more g lines more x h insts)))

-- the lines so far and those to come, at most m phis, are the whole
pub record LinesLeft (text : List ℕ) (toks : List Token) (n m : ℕ) (old names : List (List ℕ)) (lines : Lines) (at next : ℕ) : Type 0 where
  pub so_far : SoFar text toks (λ from. from ≡ at) old names lines at next
  pub same : run_lines n (drop at (symbols_of text toks)) ≡ lines_after (lines_shape names lines) (run_lines m (drop next (symbols_of text toks)))

pub lines_start : (text : List ℕ) (toks : List Token) (n : ℕ) (names : List (List ℕ)) (lines : Lines) (at : ℕ) → at ≤ length (symbols_of text toks)
    → lines.insts.items ≡ [] → lines.spots.items ≡ [] → LinesLeft text toks n n names names lines at at
lines_start text toks n names lines at h insts spots = record {
  so_far = so_far_none text toks names lines at h insts spots;
  same = rw insts (after_none (run_lines n (drop at (symbols_of text toks))));
}

-- a phi was read
pub lines_go_on : {text : List ℕ} {toks : List Token} {n m : ℕ} {old names new : List (List ℕ)} {lines : Lines} {at next : ℕ} (k : ℕ)
    → LinesLeft text toks n m old names lines at next → m ≡ suc k → is_phi_line (drop next (symbols_of text toks)) ≡ true
    → Grows names new → (x : Inst) → inst_known (length new) x ≡ true → (past : ℕ) → length new + next ≤ length names + past
    → run_phi_line m (drop next (symbols_of text toks)) ≡ Got (inst_shape new x) (drop past (symbols_of text toks)) → past ≤ length (symbols_of text toks)
    → (more : Lines) → more.insts.items ≡ lines.insts.items ++ x ∷ [] → more.spots.items ≡ lines.spots.items ++ start_of (drop next toks) ∷ []
    → LinesLeft text toks n k old new more at past
lines_go_on {text = text} {toks = toks} {m = m} {names = names} {new = new} {lines = lines} {next = next} k g e begins grows x fits past count read le more insts spots =
    let ss : List Symbol = symbols_of text toks in
    let here : run_phi_line (suc k) (drop next ss) ≡ Got (inst_shape new x) (drop past ss) = subst (λ z. run_phi_line z (drop next ss) ≡ Got (inst_shape new x) (drop past ss)) e read in
    record {
      so_far = so_far_more g.so_far grows x fits past count le (phi_between m text toks next past (inst_shape new x) g.so_far.within le read) more insts spots;
      same = g.same ∙ ap (λ z. lines_after (lines_shape names lines) (run_lines z (drop next ss))) e
          ∙ ap (lines_after (lines_shape names lines)) (lines_with_phi k (drop next ss) begins)
          ∙ line_then (run_phi_line (suc k)) (run_lines k) (lines_shape names lines) (drop next ss) (drop past ss) (inst_shape new x) here
          ∙ ap (λ z. lines_after z (run_lines k (drop past ss))) (front_more grows lines more x g.so_far.all_known insts);
    }

pub lines_stop : {text : List ℕ} {toks : List Token} {n m : ℕ} {old names : List (List ℕ)} {lines : Lines} {at next : ℕ} (k : ℕ)
    → LinesLeft text toks n m old names lines at next → m ≡ suc k → is_phi_line (drop next (symbols_of text toks)) ≡ true
    → (e : Stop) → Stops (symbols_of text toks) e (run_phi_line m (drop next (symbols_of text toks)))
    → Stops (symbols_of text toks) e (run_lines n (drop at (symbols_of text toks)))
lines_stop {text = text} {toks = toks} {names = names} {lines = lines} {next = next} k g e begins (WrongSymbol j) d =
    let ss : List Symbol = symbols_of text toks in
    let here : run_phi_line (suc k) (drop next ss) ≡ Wrong (drop j ss) = subst (λ z. run_phi_line z (drop next ss) ≡ Wrong (drop j ss)) e d.0 in (
      g.same ∙ ap (λ z. lines_after (lines_shape names lines) (run_lines z (drop next ss))) e
          ∙ ap (lines_after (lines_shape names lines)) (lines_with_phi k (drop next ss) begins)
          ∙ line_wrong (run_phi_line (suc k)) (run_lines k) (lines_shape names lines) (drop next ss) (drop j ss) here,
      d.1,
    )
lines_stop k g e begins OutOfMemory d = tt

-- the phis are read
pub lines_others : {text : List ℕ} {toks : List Token} {n m : ℕ} {old names : List (List ℕ)} {lines : Lines} {at next : ℕ} (k : ℕ)
    → LinesLeft text toks n m old names lines at next → m ≡ suc k → is_phi_line (drop next (symbols_of text toks)) ≡ false
    → lines_after (lines_shape names lines) (run_others m (drop next (symbols_of text toks))) ≡ run_lines n (drop at (symbols_of text toks))
lines_others {text = text} {toks = toks} {names = names} {lines = lines} {next = next} k g e begins =
    let ss : List Symbol = symbols_of text toks in
    sym (g.same ∙ ap (λ z. lines_after (lines_shape names lines) (run_lines z (drop next ss))) e
    ∙ ap (lines_after (lines_shape names lines)) (lines_without_phi k (drop next ss) begins)
    ∙ ap (λ z. lines_after (lines_shape names lines) (run_others z (drop next ss))) (sym e))

-- as many phis were read as may be
pub lines_run_out : {text : List ℕ} {toks : List Token} {n m : ℕ} {old names : List (List ℕ)} {lines : Lines} {at next : ℕ}
    → LinesLeft text toks n m old names lines at next → m ≡ 0 → run_lines n (drop at (symbols_of text toks)) ≡ Wrong (drop next (symbols_of text toks))
lines_run_out {text = text} {toks = toks} {names = names} {lines = lines} {next = next} g e =
    let ss : List Symbol = symbols_of text toks in
    g.same ∙ ap (λ z. lines_after (lines_shape names lines) (run_lines z (drop next ss))) e ∙ ap (lines_after (lines_shape names lines)) (no_lines (drop next ss))
