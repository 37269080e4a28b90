-- A rule that leads back to itself, worked through over the sample's symbols, as an example to copy: a tree is a number, or trees
-- between `(` and `)` with `,` between them. Its reader gives exactly what the rule spells, and else stops at the first wrong symbol.
use Rattle.std.proofs.Common.{◌≡◌, ℕ, suc, Bool, true, false, List, [], ◌∷◌, refl, inl, inr, length, drop, ◌≤◌, Option, arith}
use Rattle.grammar.specs.Language.{Lang, mark, one, skip, map_to, or_else, listed, recursive, nothing}
use Rattle.grammar.specs.Reader.{Reader, heads, run_one, run_skip, run_map, run_or, run_listed, run_recursive}
use Rattle.grammar.specs.FirstWrong.{Reads}
use Rattle.grammar.specs.Sample.{open_mark, close_mark, comma, number}
use Rattle.grammar.specs.declared.sample.Symbol.{Symbol}
use Rattle.grammar.specs.declared.sample.Symbol.TheVariants.{Minus, Number, Open, Close, Comma}
use Rattle.grammar.proofs.Good.{never, Good, Starts}
use Rattle.grammar.proofs.Sides.{starts_pick, starts_map, starts_more, starts_or, starts_recursive, joins_starts}
use Rattle.grammar.proofs.Laws.{good_one, good_next, good_skip, good_map, good_or, good_less}
use Rattle.grammar.proofs.Lists.{good_listed}
use Rattle.grammar.proofs.Recursion.{Regular, regular_self, regular_fixed, regular_map, regular_or, regular_skip, regular_listed, good_recursive}
use Rattle.grammar.proofs.Reading.{reads}

-- what is spelled; lists of trees are data of their own, since data can't hold itself within a list
mutual
  data Tree : Type 0 where
    leaf : ℕ → Tree
    branch : Trees → Tree

  data Trees : Type 0 where
    none : Trees
    more : Tree → Trees → Trees

abbrev row : List Tree → Trees
row [] = none
row (t ∷ ts) = more t (row ts)

-- the rule, with a language in the place of each inner use, and the language of trees
abbrev tree_rule : Lang Symbol Tree → Lang Symbol Tree
tree_rule tree = or_else (skip open_mark (map_to (λ ts. branch (row ts)) (listed comma close_mark tree))) (map_to leaf (one number))

abbrev tree : Lang Symbol Tree
tree = recursive tree_rule

-- its reader, by the first symbol
abbrev run_tree_rule : ℕ → Reader Symbol Tree → Reader Symbol Tree
run_tree_rule n r = run_or (heads open_mark) (run_skip open_mark (run_map (λ ts. branch (row ts)) (run_listed n comma close_mark r))) (run_map leaf (run_one number))

-- what a tree begins with
abbrev begins_tree : Symbol → Bool
begins_tree Open = true
begins_tree (Number n) = true
begins_tree _ = false

open_begins : (t : Symbol) → heads open_mark t ≡ true → begins_tree t ≡ true
open_begins Minus e = cc
open_begins (Number n) e = cc
open_begins Open e = refl
open_begins Close e = cc
open_begins Comma e = cc

number_begins : (t : Symbol) → heads number t ≡ true → begins_tree t ≡ true
number_begins Minus e = cc
number_begins (Number n) e = refl
number_begins Open e = cc
number_begins Close e = cc
number_begins Comma e = cc

number_apart : (t : Symbol) → heads number t ≡ true → heads open_mark t ≡ false
number_apart Minus e = refl
number_apart (Number n) e = refl
number_apart Open e = cc
number_apart Close e = refl
number_apart Comma e = refl

tree_open : (t : Symbol) → begins_tree t ≡ true → heads close_mark t ≡ false
tree_open Minus e = refl
tree_open (Number n) e = refl
tree_open Open e = refl
tree_open Close e = cc
tree_open Comma e = refl

comma_open : (t : Symbol) → heads comma t ≡ true → heads close_mark t ≡ false
comma_open Minus e = refl
comma_open (Number n) e = refl
comma_open Open e = refl
comma_open Close e = cc
comma_open Comma e = refl

-- the side conditions: how a tree begins, that the rule is regular, and that a step of the reader is good where the inner one is
starts_tree_rule : (L : Lang Symbol Tree) → Starts begins_tree (tree_rule L)
starts_tree_rule L =
    starts_or (starts_more begins_tree open_begins (starts_pick open_mark _)) (starts_map leaf (starts_more begins_tree number_begins (starts_pick number _)))

regular_tree : Regular tree_rule
regular_tree = regular_or (regular_skip open_mark (regular_map _ (regular_listed comma close_mark regular_self))) (regular_fixed (map_to leaf (one number)))

tree_step : (n : ℕ) (r : Reader Symbol Tree) → Good n tree r never → Good (suc n) (tree_rule tree) (run_tree_rule n r) never
tree_step n r g =
    good_or (heads open_mark) (starts_pick open_mark _) (joins_starts (starts_map leaf (starts_pick number _)) number_apart)
    (good_skip open_mark Open mark refl
    (good_map _ (good_listed n comma close_mark Comma mark Close mark never refl refl (starts_recursive tree_rule starts_tree_rule) tree_open comma_open (λ t h. refl) (λ t h. refl) g)))
    (good_map leaf (good_one (suc n) number (Number 0) 0 never refl))

-- so the reader is good at every depth
good_tree : (n : ℕ) → Good n tree (run_recursive run_tree_rule n) never
good_tree = good_recursive tree_rule run_tree_rule (Number 0 ∷ []) (leaf 0) (inr (0, (Number 0, [], 0, refl, refl, (refl, refl)), refl)) starts_tree_rule regular_tree tree_step

tree_reads : (ts : List Symbol) → Reads tree ts (run_recursive run_tree_rule (length ts) ts)
tree_reads ts = reads (good_tree (length ts)) ts (omega arith)
