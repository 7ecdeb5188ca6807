-- Parts of statements for which the checker has a function of its own. The rules of the language do not speak of them.
use Rattle.std.specs.Prelude.{ℕ, List, Option}
use Rattle.lam_types_kinds.specs.Verdicts.{then_on}
use Rattle.lam_syntax.specs.Tree.{IdTree, ExprTree, StmtList}
use Rattle.lam_builtins.specs.Types.{ValueType, int, bool, exactly, any_object}
use Rattle.lam_types_kinds.specs.Breaks.{Verdict}
use Rattle.lam_types_kinds.specs.Tables.{Names, Decls}
use Rattle.lam_types.specs.declared.stmts.Counts.{Counts}
use Rattle.lam_types.specs.Stmts.{stands, one_slot, new_local, with_local, head_checked, block_checked}

-- a test and a block
abbrev pub guarded : Decls → Option ValueType → Names → Counts → ExprTree → StmtList → Verdict Counts
guarded d res env c e body = then_on (stands d env (exactly bool) e) (λ _. block_checked d res env c body)

-- a monitor and a block
abbrev pub synced : Decls → Option ValueType → Names → Counts → ℕ → ExprTree → StmtList → Verdict Counts
synced d res env c at e body = then_on (one_slot at c) (λ c. then_on (stands d env any_object e) (λ _. block_checked d res env c body))

-- the head of a region and its body
abbrev pub opened : Decls → Option ValueType → Names → Counts → ℕ → ExprTree → ExprTree → List IdTree → StmtList → Verdict Counts
opened d res env c at l k xs body = then_on (head_checked d env c at l k xs) (λ c. block_checked d res env c body)

-- a catch block with its name
abbrev pub caught : Decls → Option ValueType → Names → Counts → IdTree → StmtList → Verdict Counts
caught d res env c x handler = then_on (new_local env c x) (λ c. block_checked d res (with_local env x.word int) c handler)
