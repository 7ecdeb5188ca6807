-- What is known at some addresses, and which answers are of which form.
use Rattle.std.specs.Prelude.{◌≡◌, pos, false, codes, List, [], ◌∷◌, Some, None, refl}
use Rattle.lam_value.specs.declared.values.Value.TheVariants.{Int, Nothing}
use Rattle.lam_asks.specs.declared.answer.Answer.TheVariants.{Done, Val}
use Rattle.lam_asks.specs.declared.ask.Ask.TheVariants as ask
use Rattle.lam_bytecode.specs.Codes.{CodeTree}
use Rattle.lam_bytecode.specs.declared.unit.ArgKind.TheVariants.{Other as OtherArgument}
use Rattle.lam_bytecode.specs.declared.unit.UnitKind.TheVariants.{Function}
use Rattle.lam_bytecode.specs.declared.op.Op.{Op}
use Rattle.lam_bytecode.specs.declared.op.Op.TheVariants.{Load, Jump, Return, ReadBarrier, GetField}
use Rattle.guarded_code.specs.declared.known.ValueKind.TheVariants.{Unknown, Other}
use Rattle.guarded_code.specs.declared.known.Access.TheVariants.{Reading}
use Rattle.guarded_code.specs.Descriptions.{untested, tested, fresh}
use Rattle.guarded_code_threads.specs.Described.{description_at}
use Rattle.guarded_code_threads.specs.Answers.{Answers}

-- a function of one parameter with two locals
abbrev one : List Op → CodeTree
one ops = record { units = record { kind = Function (codes "f") (OtherArgument ∷ []) false; locals = 2; ops = ops } ∷ []; constants = []; classes = [] }

-- behind the barrier the operand is tested, and so is the local that it is a copy of
behind_a_barrier :
    description_at (one (Load 0 ∷ ReadBarrier 0 ∷ GetField 0 ∷ Return ∷ [])) 0 2
    ≡ Some (record { stack = record { known = tested Reading (untested Unknown); copies = Some 0 } ∷ []; locals = tested Reading (untested Unknown) ∷ untested Other ∷ [] })
unfolding description_at
behind_a_barrier = refl

-- of what was read nothing is known
what_was_read :
    description_at (one (Load 0 ∷ ReadBarrier 0 ∷ GetField 0 ∷ Return ∷ [])) 0 3
    ≡ Some (record { stack = fresh Unknown ∷ []; locals = tested Reading (untested Unknown) ∷ untested Other ∷ [] })
unfolding description_at
what_was_read = refl

-- at an address that no path reaches, nor at one outside, nothing is known
not_reached : description_at (one (Jump 2 ∷ Return ∷ Load 0 ∷ Return ∷ [])) 0 1 ≡ None
unfolding description_at
not_reached = refl

outside : description_at (one (Load 0 ∷ Return ∷ [])) 1 0 ≡ None
unfolding description_at
outside = refl

-- a read is answered by a value, and a write is done
read_gives : Answers (ask.Read Nothing 0) (Val (Int (pos 7)))
read_gives = tt

write_is_done : Answers (ask.Write Nothing 0 Nothing) Done
write_is_done = tt
