-- There is one list of counts for each limit, and where types are proper there is one.
use Rattle.std.proofs.Common.{◌≡◌, ℕ, zero, suc, ◌+◌, ◌<◌, ◌≤◌, List, [], ◌∷◌, map, length, get_or, drop, Some, refl, sym, ◌∙◌, ap, subst, arith, slice_get, option_and_then}
use Rattle.std.specs.Prelude.{flat_map}
use Rattle.std.proofs.lemmas.List.{drop_all, length-map}
use Rattle.ir_tree.specs.Shape.{BodyShape, phi, binary, icmp, select, convert, freeze, alloca, load, store, get_element, call, jump, branch, switch, return_void, return_value, unreachable, InstShape, BlockShape, FunctionShape, GlobalShape, NamedTyShape, ModuleShape}
use Rattle.ir_layout.specs.declared.sizes.Layout.{Layout}
use Rattle.ir_layout.specs.Layout.{next_multiple}
use Rattle.ir_layout.specs.Rules.{IsSized}
use Rattle.ir_layout.proofs.Relations.{one_layout}
use Rattle.ir_rules.specs.Instructions.{Around, IsWellTyped}
use Rattle.ir_rules.specs.Places.{global_at, inst_at_place}
use Rattle.ir_rules.specs.TypeRules.{HasTypes}
use Rattle.ir_proper.specs.declared.Which.{Which}
use Rattle.ir_proper.specs.declared.Which.TheVariants.{Functions, Params, Results, Cases, Frame, Globals, Weight}
use Rattle.ir_proper.specs.Limits.{capped, all_insts, alloca_room, TakesRoom, TakeRoom, frame_base, HasFrame, HaveFrames, HaveRoom, AreCounts}
use Rattle.ir_limits.specs.Sums.{HaveSum}
use Rattle.ir_limits.specs.Globals.{GlobalTakes}
use Rattle.ir_limits.proofs.Rooms.{take_append}

-- ---- there is one at most
one_room : (ts : List NamedTyShape) (body : BodyShape) (a b : ℕ) → TakesRoom ts body a → TakesRoom ts body b → a ≡ b
one_room ts (alloca ty count) a b (l, has, is) (k, gives, same) = is ∙ ap (λ (z : Layout). alloca_room count z.size) (one_layout ts ty l k has gives) ∙ sym same
one_room ts _ a b is same = is ∙ sym same

one_take : (ts : List NamedTyShape) (xs : List InstShape) (a b : ℕ) → TakeRoom ts xs a → TakeRoom ts xs b → a ≡ b
one_take ts [] a b is same = is ∙ sym same
one_take ts (x ∷ xs) a b (first, rest, one, more, is) (other, others, takes, all, same) =
    omega (arith, is, same, one_room ts x.body first other one takes, one_take ts xs rest others more all)

pub one_frame : (ts : List NamedTyShape) (f : FunctionShape) (a b : ℕ) → HasFrame ts f a → HasFrame ts f b → a ≡ b
one_frame ts f a b (room, takes, is) (other, gives, same) =
    is ∙ ap (λ n. capped (next_multiple 16 (frame_base f + n))) (one_take ts (all_insts f) room other takes gives) ∙ sym same

one_frames : (ts : List NamedTyShape) (fs : List FunctionShape) (xs ys : List ℕ) → HaveFrames ts fs xs → HaveFrames ts fs ys → xs ≡ ys
one_frames ts [] xs ys is same = is ∙ sym same
one_frames ts (f ∷ fs) xs ys (first, rest, one, more, is) (other, others, has, all, same) =
    is ∙ ap (λ (n : ℕ). n ∷ rest) (one_frame ts f first other one has) ∙ ap (λ (ns : List ℕ). other ∷ ns) (one_frames ts fs rest others more all) ∙ sym same

pub one_globals : (ts : List NamedTyShape) (gs : List GlobalShape) (a b : ℕ) → HaveRoom ts gs a → HaveRoom ts gs b → a ≡ b
one_globals ts [] a b is same = is ∙ sym same
one_globals ts (g ∷ gs) a b (l, rest, has, more, is) (k, others, gives, all, same) =
    is ∙ ap (λ (z : Layout). next_multiple 16 z.size + rest) (one_layout ts g.ty l k has gives)
    ∙ ap (λ n. next_multiple 16 k.size + n) (one_globals ts gs rest others more all) ∙ sym same

pub one_counts : (m : ModuleShape) (which : Which) (xs ys : List ℕ) → AreCounts m which xs → AreCounts m which ys → xs ≡ ys
one_counts m Functions xs ys is same = is ∙ sym same
one_counts m Params xs ys is same = is ∙ sym same
one_counts m Results xs ys is same = is ∙ sym same
one_counts m Cases xs ys is same = is ∙ sym same
one_counts m Frame xs ys are same = one_frames m.types m.functions xs ys are same
one_counts m Globals xs ys (room, has, is) (other, gives, same) =
    is ∙ ap (λ n. capped n ∷ []) (one_globals m.types m.globals room other has gives) ∙ sym same
one_counts m Weight xs ys is same = is ∙ sym same

-- ---- where types are proper there is one
some_room : (a : Around) (body : BodyShape) → IsWellTyped a body → (n : ℕ) × TakesRoom a.within.types body n
some_room a (alloca ty count) (n, l, is, has, small) = (alloca_room count l.size, (l, has, refl))
some_room a (phi ty inputs) typed = (0, refl)
some_room a (binary operation flags ty x y) typed = (0, refl)
some_room a (icmp predicate ty x y) typed = (0, refl)
some_room a (select condition met unmet) typed = (0, refl)
some_room a (convert conversion ty val to) typed = (0, refl)
some_room a (freeze ty val) typed = (0, refl)
some_room a (load ty at) typed = (0, refl)
some_room a (store value at) typed = (0, refl)
some_room a (get_element inbounds ty base indices) typed = (0, refl)
some_room a (call ret callee arguments) typed = (0, refl)
some_room a (jump to) typed = (0, refl)
some_room a (branch condition met unmet) typed = (0, refl)
some_room a (switch value otherwise cases) typed = (0, refl)
some_room a return_void typed = (0, refl)
some_room a (return_value value) typed = (0, refl)
some_room a unreachable typed = (0, refl)

some_take : (ts : List NamedTyShape) (xs : List InstShape) → ((i : ℕ) (x : InstShape) → slice_get xs i ≡ Some x → (n : ℕ) × TakesRoom ts x.body n)
    → (n : ℕ) × TakeRoom ts xs n
some_take ts [] each = (0, refl)
some_take ts (x ∷ xs) each =
    let one = each 0 x refl in
    let more = some_take ts xs (λ i y at. each (suc i) y at) in
    (one.0 + more.0, (one.0, more.0, one.1, more.1, refl))

blocks_some : (ts : List NamedTyShape) (bs : List BlockShape)
    → ((b i : ℕ) (x : InstShape) → option_and_then (λ (y : BlockShape). slice_get y.insts i) (slice_get bs b) ≡ Some x → (n : ℕ) × TakesRoom ts x.body n)
    → (n : ℕ) × TakeRoom ts (flat_map (λ b. b.insts) bs) n
blocks_some ts [] each = (0, refl)
blocks_some ts (b ∷ bs) each =
    let one = some_take ts b.insts (λ i x at. each 0 i x at) in
    let more = blocks_some ts bs (λ k i x at. each (suc k) i x at) in
    (one.0 + more.0, take_append ts b.insts (flat_map (λ b. b.insts) bs) one.0 more.0 one.1 more.1)

-- a function of a module has a frame
pub some_frame : (m : ModuleShape) → HasTypes m → (k : ℕ) (f : FunctionShape) → slice_get m.functions k ≡ Some f → (n : ℕ) × HasFrame m.types f n
some_frame m proper k f at =
    let takes = blocks_some m.types f.blocks
    (λ b i x inside. some_room (record { within = m; function = f }) x.body (proper (inst_at_place k b i) f x at inside).typed) in
    (capped (next_multiple 16 (frame_base f + takes.0)), (takes.0, takes.1, refl))

frames_some : (ts : List NamedTyShape) (fs : List FunctionShape) → ((k : ℕ) (f : FunctionShape) → slice_get fs k ≡ Some f → (n : ℕ) × HasFrame ts f n)
    → (ns : List ℕ) × HaveFrames ts fs ns
frames_some ts [] each = ([], refl)
frames_some ts (f ∷ fs) each =
    let one = each 0 f refl in
    let more = frames_some ts fs (λ k g at. each (suc k) g at) in
    (one.0 ∷ more.0, (one.0, more.0, one.1, more.1, refl))

globals_some : (ts : List NamedTyShape) (gs : List GlobalShape) → ((k : ℕ) (g : GlobalShape) → slice_get gs k ≡ Some g → IsSized ts g.ty)
    → (n : ℕ) × HaveRoom ts gs n
globals_some ts [] each = (0, refl)
globals_some ts (g ∷ gs) each =
    let one = each 0 g refl in
    let more = globals_some ts gs (λ k h at. each (suc k) h at) in
    (next_multiple 16 one.0.size + more.0, (one.0, more.0, one.1, more.1, refl))

pub some_globals : (m : ModuleShape) → HasTypes m → (n : ℕ) × HaveRoom m.types m.globals n
some_globals m proper = globals_some m.types m.globals (λ k g at. (proper (global_at k) g at).0)

pub some_counts : (m : ModuleShape) → HasTypes m → (which : Which) → (counts : List ℕ) × AreCounts m which counts
some_counts m proper Functions = (_, refl)
some_counts m proper Params = (_, refl)
some_counts m proper Results = (_, refl)
some_counts m proper Cases = (_, refl)
some_counts m proper Frame = frames_some m.types m.functions (some_frame m proper)
some_counts m proper Globals = let room = some_globals m proper in (capped room.0 ∷ [], (room.0, room.1, refl))
some_counts m proper Weight = (_, refl)

-- ---- globals by what each takes
pub globals_take : (ts : List NamedTyShape) (gs : List GlobalShape) (n : ℕ) → HaveSum (GlobalTakes ts) gs n → HaveRoom ts gs n
globals_take ts [] n none = none
globals_take ts (g ∷ gs) n (first, rest, (l, has, is), more, sum) =
    (l, rest, has, globals_take ts gs rest more, sum ∙ ap (λ k. k + rest) is)

pub globals_have : (ts : List NamedTyShape) (gs : List GlobalShape) (n : ℕ) → HaveRoom ts gs n → HaveSum (GlobalTakes ts) gs n
globals_have ts [] n none = none
globals_have ts (g ∷ gs) n (l, rest, has, more, sum) = (next_multiple 16 l.size, rest, (l, has, refl), globals_have ts gs rest more, sum)

-- ---- frames one by one
frames_length : (ts : List NamedTyShape) (fs : List FunctionShape) (ns : List ℕ) → HaveFrames ts fs ns → length ns ≡ length fs
frames_length ts [] ns is = ap length is
frames_length ts (f ∷ fs) ns (first, rest, one, more, is) = ap length is ∙ ap suc (frames_length ts fs rest more)

-- the frame of a function is the one with its number
pub frame_at : {X : Type 0} (ts : List NamedTyShape) (g : X → FunctionShape) (fs : List X) (ns : List ℕ) (i : ℕ) (f : X) (n : ℕ) → HaveFrames ts (map g fs) ns
    → i < length fs → f ≡ get_or fs i f → HasFrame ts (g f) n → drop i ns ≡ n ∷ drop (i + 1) ns
frame_at ts g [] ns i f n have within is has = absurd (omega arith)
frame_at ts g (x ∷ fs) ns zero f n (first, rest, one, more, all) within is has =
    let same : first ≡ n = one_frame ts (g x) first n one (subst (λ z. HasFrame ts (g z) n) is has) in
    all ∙ ap (λ (k : ℕ). k ∷ rest) same ∙ ap (λ (ks : List ℕ). n ∷ drop 1 ks) (sym all)
frame_at ts g (x ∷ fs) ns (suc i) f n (first, rest, one, more, all) within is has =
    let number : suc (i + 1) ≡ suc i + 1 = omega arith in
    let later = sym (ap (drop (suc (i + 1))) all) ∙ ap (λ (k : ℕ). drop k ns) number in
    ap (drop (suc i)) all ∙ frame_at ts g fs rest i f n more (omega arith) is has ∙ ap (λ (ks : List ℕ). n ∷ ks) later

pub no_frame_left : {X : Type 0} (ts : List NamedTyShape) (g : X → FunctionShape) (fs : List X) (ns : List ℕ) (i : ℕ) → HaveFrames ts (map g fs) ns
    → length fs ≤ i → drop i ns ≡ []
no_frame_left ts g fs ns i have past = drop_all i ns (omega (arith, frames_length ts (map g fs) ns have, length-map fs g))
