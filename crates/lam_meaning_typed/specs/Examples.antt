-- Worked examples: a typed program, and one that is not typed and goes wrong.
use Rattle.std.specs.Prelude.{◌≡◌, pos, true, List, [], ◌∷◌, Some, codes, refl}
use Rattle.capabilities.specs.Changes.{no_caps}
use Rattle.lam_operators.specs.declared.BinaryOp.TheVariants.{Add}
use Rattle.lam_builtins.specs.Types.{int, a_value}
use Rattle.lam_resolve_tree.specs.Tree.{ResolvedType, number_value, bool_value, local_value, binary_of, Expression, return_value, block_end, block_more, ResolvedTree}
use Rattle.lam_resolve_tree.specs.Typing.{IsTypedTree}
use Rattle.lam_meaning.specs.Trees.{on_end}
use Rattle.lam_meaning.specs.Means.{means}
use Rattle.lam_meaning.specs.Plays.{how_of, is_broken}

-- `fn f(x: int, ..): int { return E; }`
abbrev returning : List ResolvedType → Expression → ResolvedTree
returning ts e =
    record { classes = []; functions = record { name = codes "f"; params = ts; result = Some int; slots = ts; body = block_more (return_value (Some e)) block_end } ∷ [] }

-- `fn f(x: int): int { return x + 1; }`
next_is_typed : IsTypedTree (returning (int ∷ []) (binary_of Add (local_value 0) (number_value (pos 1))))
next_is_typed =
    record {
      classes = tt;
      functions = (
        record {
          more = [];
          slots = refl;
          body = ((a_value int, (((a_value int, (int, refl, refl), refl), (a_value int, refl, refl)), refl), refl), tt);
          ends = refl;
        },
        tt,
      );
    }

-- `fn f(): int { return true + 1; }`
sum_of_truth_is_broken : how_of (means (returning [] (binary_of Add (bool_value true) (number_value (pos 1)))) 0 0 [] no_caps) [] ≡ is_broken
unfolding means on_end
sum_of_truth_is_broken = refl
