-- What a map from names to bytes answers, as the files of a store.
use Rattle.std.proofs.Common.{◌≡◌, ◌≢◌, ℕ, Bool, true, false, cond, Option, Some, List, [], ◌∷◌, refl, sym, ap, ◌∙◌, map}
use Rattle.std.specs.Prelude.{Vec, String, string_bytes}
use Rattle.std.specs.Option.{option_map}
use Rattle.std.specs.Ordering.{nat_cmp, eq_by_cmp}
use Rattle.std.specs.Cmp.Lexicographic.{slice_cmp, nat_list_cmp_total}
use Rattle.std.specs.FinMap.{get, find, insert, get-from_entries, get-insert, same_map, slice_cmp-IsAntisymmetric, nat_cmp-IsAntisymmetric}
use Rattle.std.specs.Map.{lookup}
use Rattle.std.specs.String.{string_cmp}
use Rattle.std.specs.BTreeMap.{BTreeMap, get_by_text, is_at, UpdatesBy}
use Rattle.std.specs.declared.alloc.Global.{Global}
use Rattle.std.specs.Str.{bytes_eq}
use Rattle.std.proofs.lemmas.Bool.{false_from_ne_true}
use Rattle.std.proofs.lemmas.Cmp.{eq_by_cmp_equiv}
use Rattle.std.proofs.lemmas.Map.Text.{btree_map_updates_text, is_eq-slice_cmp}
use Rattle.std.proofs.lemmas.Slice.Eq.{bytes_eq-Decides}
use Rattle.sr_base.specs.Files.{Files}
use Rattle.sr_base.specs.Memory.{files_of}

option_map-cond : {A B : Type 0} (f : A → B) (b : Bool) (x : A) (o : Option A) → option_map f (cond b (Some x) o) ≡ cond b (Some (f x)) (option_map f o)
option_map-cond f true x o = refl
option_map-cond f false x o = refl

find-entries : (es : List (String Global × Vec ℕ Global)) (q : List ℕ)
    → find (slice_cmp nat_cmp) q (map (λ e. (string_bytes e.0, e.1.items)) es)
    ≡ option_map (λ v. v.items) (lookup (is_at (λ k. slice_cmp nat_cmp q (string_bytes k))) es)
find-entries [] q = refl
find-entries (e ∷ es) q =
    let here : Bool = eq_by_cmp (slice_cmp nat_cmp) q (string_bytes e.0) in
    ap (cond here (Some e.1.items)) (find-entries es q) ∙ sym (option_map-cond _ here e.1 _)

-- a store's file of a name is the map's value at the text
pub get-files_of : (m : BTreeMap (String Global) (Vec ℕ Global)) (q : List ℕ) → get (files_of m) q ≡ option_map (λ v. v.items) (get_by_text m q)
get-files_of m q = get-from_entries nat_list_cmp_total _ q ∙ find-entries m.entries q

-- a map that has a further text, or another value at it, holds the files with that one put
pub files_of-put : (m n : BTreeMap (String Global) (Vec ℕ Global)) (key : String Global) (value : Vec ℕ Global) (name bytes : List ℕ)
    → string_bytes key ≡ name → value.items ≡ bytes → UpdatesBy string_cmp (λ k. slice_cmp nat_cmp (string_bytes key) (string_bytes k)) m n (Some value)
    → files_of n ≡ insert (files_of m) name bytes
files_of-put m n key value name bytes named held updates =
    rw (← named, ← held) (
    same_map nat_list_cmp_total (slice_cmp-IsAntisymmetric nat_cmp-IsAntisymmetric) _ _
    (λ q.
    get-files_of n q
    ∙ ap (option_map (λ v. v.items)) (btree_map_updates_text (string_bytes key) m n (Some value) updates q)
    ∙ option_map-cond _ _ value _
    ∙ ap (cond (bytes_eq (string_bytes key) q) (Some value.items)) (sym (get-files_of m q))
    ∙ ap (λ b. cond b (Some value.items) (get (files_of m) q)) (sym (is_eq-slice_cmp (string_bytes key) q) ∙ (eq_by_cmp_equiv nat_list_cmp_total).symm (string_bytes key) q)
    ∙ sym (get-insert nat_list_cmp_total (files_of m) (string_bytes key) value.items q)))

-- the file that was put
pub get-insert_same : (files : Files) (name bytes : List ℕ) → get (insert files name bytes) name ≡ Some bytes
get-insert_same files name bytes =
    get-insert nat_list_cmp_total files name bytes name
    ∙ ap (λ b. cond b (Some bytes) (get files name)) ((eq_by_cmp_equiv nat_list_cmp_total).refl name)

-- every other file
pub get-insert_other : (files : Files) (name bytes other : List ℕ) → other ≢ name → get (insert files name bytes) other ≡ get files other
get-insert_other files name bytes other apart =
    get-insert nat_list_cmp_total files name bytes other
    ∙ ap (λ b. cond b (Some bytes) (get files other))
    (false_from_ne_true _ (λ same. apart ((bytes_eq-Decides other name).0 (sym (is_eq-slice_cmp other name) ∙ same))))
