-- What the definitions see of the tables.
use Rattle.std.specs.Prelude.{List, map, option_map}
use Rattle.std.specs.Borrow.{Bor}
use Rattle.lam_operators.specs.Words.{Word}
use Rattle.lam_resolve_tree.specs.Tree.{ResolvedType}
use Rattle.lam_resolve_tree.specs.Typing.{ResolvedSignature}
use Rattle.lam_resolve_laws.specs.Resolved.{Tables as ResolvedTables, types_of}
use Rattle.lam_resolve_tables.specs.declared.kinds.Kind.{Kind}
use Rattle.lam_resolve_tables.specs.declared.named.Named.{Named}
use Rattle.lam_resolve_tables.specs.declared.tables.FunctionSignature.{FunctionSignature}
use Rattle.lam_resolve_tables.specs.declared.tables.Tables.{Tables}
use Rattle.lam_resolve_tables.specs.Entries.{entries_of}
use Rattle.lam_resolve_tables.specs.Kinds.{kind_type}

-- fields or parameters
abbrev pub vars : List (Bor Word × Kind) → List (Word × ResolvedType)
vars vs = map (λ v. (v.0.now, kind_type v.1)) vs

abbrev pub fields : Named Kind → List (Word × ResolvedType)
fields n = map (λ e. (e.0, kind_type e.1)) (entries_of n)

abbrev pub all_fields : List (Named Kind) → List (List (Word × ResolvedType))
all_fields cs = map fields cs

abbrev pub head : FunctionSignature → ResolvedSignature
head h = record { params = types_of (vars h.params.items); result = option_map kind_type h.result }

abbrev pub heads : Named FunctionSignature → List (Word × ResolvedSignature)
heads n = map (λ e. (e.0, head e.1)) (entries_of n)

abbrev pub tables : Tables → ResolvedTables
tables t = record { names = entries_of t.names; classes = all_fields t.classes.items; functions = heads t.functions }
