-- Trees in a row, and runs one after another.
use Rattle.std.proofs.Common.{◌≡◌, List, [], ◌∷◌, ◌++◌, map, refl, ap, append_assoc, ap₂, sym, ◌∙◌, subst, Vec}
use Rattle.std.proofs.lemmas.List.{append-nil, map-append}
use Rattle.std.specs.declared.alloc.Global.{Global}
use Rattle.ir_tree.specs.declared.module.ValueId.{ValueId}
use Rattle.tagged_tree.specs.Runs.{RunOf}
use Rattle.tagged_tree.specs.TreeShape.{TreeShape, node, trees, tree_row, erased, erased_row, tags, row_tags}
use Rattle.tagged_tree.specs.ShapeOf.{op_shape, tree_step, tree_shape}
use Rattle.tagged_tree.specs.declared.tree.Op.{Op}
use Rattle.tagged_tree.specs.declared.tree.Tree.{Tree}
use Rattle.tagged_tree.specs.declared.tree.Tree.TheOpen as tree
use Rattle.tagged_tree.specs.declared.tree.Tree.TheVariants as variants
use Rattle.tagged_tree.specs.declared.tree.Tree.TheFolds.{fold-roll-Tree}

-- a node by its children
pub node_shape : {T : Type 0} (op : Op) (id : ValueId) (v : Vec (Tree T) Global) (tag : T)
    → tree_shape (variants.Node op id v tag) ≡ node (op_shape op) id.0 (tree_row (map tree_shape v.items)) tag
node_shape {T} op id v tag = ap tree_shape (sym (variants.rolls-Node op id v tag)) ∙ fold-roll-Tree T (TreeShape T) tree_step (tree.Node op id v tag)

-- a row without tags is the trees without tags
pub erased_row-tree_row : {T : Type 0} (ts : List (TreeShape T)) → erased_row (tree_row ts) ≡ tree_row (map erased ts)
erased_row-tree_row [] = refl
erased_row-tree_row (t ∷ ts) = ap (trees (erased t)) (erased_row-tree_row ts)

-- rows with the same trees but for tags are the same but for tags
pub same_rows : {A B : Type 0} (xs : List (TreeShape A)) (ys : List (TreeShape B)) → map erased xs ≡ map erased ys
    → erased_row (tree_row xs) ≡ erased_row (tree_row ys)
same_rows xs ys e = erased_row-tree_row xs ∙ ap tree_row e ∙ sym (erased_row-tree_row ys)

-- the tags of one more tree come last
pub row_tags-push : {T : Type 0} (ts : List (TreeShape T)) (t : TreeShape T)
    → row_tags (tree_row (ts ++ t ∷ [])) ≡ row_tags (tree_row ts) ++ tags t
row_tags-push [] t = append-nil (tags t)
row_tags-push (u ∷ ts) t = ap (λ us. tags u ++ us) (row_tags-push ts t) ∙ sym (append_assoc (tags u) (row_tags (tree_row ts)) (tags t))

-- a run from where another ended makes one run with it
pub RunOf-append : {S A B : Type 0} (Leads : S → A → B → S → Type 0) (s m t : S) (xs us : List A) (ys vs : List B)
    → RunOf Leads s xs ys m → RunOf Leads m us vs t → RunOf Leads s (xs ++ us) (ys ++ vs) t
RunOf-append Leads s m t [] us [] vs first second = subst (λ z. RunOf Leads z us vs t) (sym first) second
RunOf-append Leads s m t [] us (y ∷ ys) vs first second = absurd first
RunOf-append Leads s m t (x ∷ xs) us [] vs first second = absurd first
RunOf-append Leads s m t (x ∷ xs) us (y ∷ ys) vs first second = (first.0, first.1, RunOf-append Leads first.0 m t xs us ys vs first.2 second)

-- what a loop over trees has done: the same trees but for tags, by a run over their tags
abbrev pub Retagged : {S A B : Type 0} → (S → A → B → S → Type 0) → S → List (Tree A) → List (Tree B) → S → Type 0
Retagged Leads s olds news t = (map erased (map tree_shape news) ≡ map erased (map tree_shape olds))
    × RunOf Leads s (row_tags (tree_row (map tree_shape olds))) (row_tags (tree_row (map tree_shape news))) t

-- the tags of one more tree of a list come last
pub tags-push : {T : Type 0} (ts : List (Tree T)) (t : Tree T)
    → row_tags (tree_row (map tree_shape (ts ++ t ∷ []))) ≡ row_tags (tree_row (map tree_shape ts)) ++ tags (tree_shape t)
tags-push ts t = ap (λ us. row_tags (tree_row us)) (map-append tree_shape ts (t ∷ [])) ∙ row_tags-push (map tree_shape ts) (tree_shape t)

-- a list's trees without tags, and one more
pub erased-push : {T : Type 0} (ts : List (Tree T)) (t : Tree T)
    → map erased (map tree_shape (ts ++ t ∷ [])) ≡ map erased (map tree_shape ts) ++ erased (tree_shape t) ∷ []
erased-push ts t = ap (map erased) (map-append tree_shape ts (t ∷ [])) ∙ map-append erased (map tree_shape ts) (tree_shape t ∷ [])

-- one more tree
pub Retagged-push : {S A B : Type 0} (Leads : S → A → B → S → Type 0) (s m t : S) (olds : List (Tree A)) (news : List (Tree B)) (old : Tree A) (new : Tree B)
    → Retagged Leads s olds news m → erased (tree_shape new) ≡ erased (tree_shape old) → RunOf Leads m (tags (tree_shape old)) (tags (tree_shape new)) t
    → Retagged Leads s (olds ++ old ∷ []) (news ++ new ∷ []) t
Retagged-push Leads s m t olds news old new done same run = (
  erased-push news new ∙ ap₂ (λ xs x. xs ++ x ∷ []) done.0 same ∙ sym (erased-push olds old),
  rw (tags-push olds old, tags-push news new) (RunOf-append Leads s m t _ _ _ _ done.1 run),
)
