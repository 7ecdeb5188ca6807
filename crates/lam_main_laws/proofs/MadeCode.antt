-- The made program keeps the rules, and has code.
use Rattle.std.proofs.Common.{◌≡◌, ℕ, [], ◌∷◌, Option, Some, None, Ok, codes, refl, ap, ◌∙◌}
use Rattle.lam_make.specs.Made.{program_text}
use Rattle.lam_builtins.specs.Builtins.{builtin_named}
use Rattle.lam_types_kinds.specs.Tables.{with_function, with_var}
use Rattle.lam_types_exprs.specs.Exprs.{placed}
use Rattle.lam_types.specs.Stmts.{stands, closed}
use Rattle.lam_types.specs.Program.{first_type_break}
use Rattle.region_check.specs.Breaks.{both, first_region_break}
use Rattle.region_check.specs.Breaks as regions
use Rattle.lam_front.specs.Programs.{IsFine}
use Rattle.lam_resolve_tree.specs.Tree.{ResolvedTree}
use Rattle.lam_resolve_laws.specs.Resolved.{then_some, resolved}
use Rattle.lam_bytecode.specs.Codes.{CodeTree}
use Rattle.lam_bytecode.specs.declared.unit.ArgKind.TheVariants as kind
use Rattle.lam_meaning.specs.Scheme.{scheme}
use Rattle.lam_meaning.specs.Long.{first_long_unit, unless_long}
use Rattle.thinned_code.specs.Thinned.{thinned}
use Rattle.lam_main_plan.specs.Reading.{IsCompiled, IsRunCode}
use Rattle.world_doc_terms.specs.Entries.{Entry, entry_named}
use Rattle.world_save_laws.specs.Entries.{ThinnedStarts}
use Rattle.lam_main_laws.proofs.Program.{made_tokens, made_program, made_utf8, made_lexed, made_spelt}

typed : first_type_break made_program ≡ None
unfolding first_type_break with_function with_var builtin_named placed stands closed
typed = refl

legal : first_region_break made_program ≡ None
unfolding first_region_break both regions.closed
legal = refl

fine : IsFine program_text made_program
fine = record { spelt = record { tokens = made_tokens; is = record { utf8 = made_utf8; lexed = made_lexed; spelt = made_spelt } }; typed = typed; legal = legal }

-- ---- its code

abbrev tree_or_none : Option ResolvedTree → ResolvedTree
tree_or_none None = record { classes = []; functions = [] }
tree_or_none (Some r) = r

abbrev made_tree : ResolvedTree
made_tree = tree_or_none (resolved made_program)

abbrev whole_code : CodeTree
whole_code = scheme made_tree

-- what is run of it
abbrev pub made_code : CodeTree
made_code = thinned whole_code

is_resolved : resolved made_program ≡ Some made_tree
unfolding resolved then_some builtin_named
is_resolved = refl

none_is_long : first_long_unit made_tree ≡ None
unfolding first_long_unit resolved then_some builtin_named
none_is_long = refl

compiled_so : IsCompiled program_text (Ok whole_code)
compiled_so = record { program = made_program; fine = fine; makes = record { tree = made_tree; resolves = is_resolved; makes = ap (λ (long : Option ℕ). unless_long long whole_code) none_is_long } }

pub made_compiled : IsRunCode program_text made_code
made_compiled = record { whole = whole_code; makes = compiled_so; thin = refl }

-- ---- its one function

abbrev entry : Option Entry
entry = Some (record { unit = 0; takes = kind.Tag ∷ kind.Int ∷ [] })

whole_entry : entry_named whole_code (codes "work") ≡ entry
unfolding scheme resolved then_some builtin_named
whole_entry = refl

pub made_entry : ((code : CodeTree) → ThinnedStarts code) → entry_named made_code (codes "work") ≡ entry
made_entry starts = starts whole_code (codes "work") ∙ whole_entry
