-- How the functions of an expression call one another at one token: each of a lower rank.
use Rattle.std.proofs.Common.{ℕ, ◌+◌, ◌-◌, ◌*◌}
use Rattle.lam_grammar.specs.declared.Level.{Level}
use Rattle.lam_grammar.specs.declared.Level.TheVariants.{Or as or_level, And as and_level, Sum as sum_level, Term as term_level}

-- the tokens left, and the rank
abbrev pub measure : (length at rank : ℕ) → ℕ
measure length at rank = (length - at) * 32 + rank

abbrev pub chain_rank : Level → ℕ
chain_rank or_level = 20
chain_rank and_level = 18
chain_rank sum_level = 15
chain_rank term_level = 13

abbrev pub operand_rank : Level → ℕ
operand_rank or_level = 19
operand_rank and_level = 17
operand_rank sum_level = 14
operand_rank term_level = 12
