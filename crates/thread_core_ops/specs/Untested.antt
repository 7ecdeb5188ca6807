-- What operations do where nothing is tested a second time.
use Rattle.std.specs.Prelude.{List}
use Rattle.lam_value.specs.declared.values.Value.{Value}
use Rattle.lam_bytecode.specs.declared.op.Op.{Op}
use Rattle.lam_bytecode.specs.declared.op.Op.TheVariants.{GetField, PutField, GetElement, PutElement}
use Rattle.thread_steps.specs.Ops.{Did, Around, effect, on_any, on_int}
use Rattle.thread_core_calls.specs.Reaching.{reads_field, writes_field, reads_element, writes_element}

-- an access goes by the barrier before it; all else is as it is
unfoldable pub untested : Around → List Value → Op → Did
untested a s (GetField f) = reads_field f s
untested a s (PutField f) = on_any s (λ v s. writes_field f v s)
untested a s GetElement = on_int s (λ i s. reads_element a.label i s)
untested a s PutElement = on_any s (λ v s. on_int s (λ i s. writes_element a.label i v s))
untested a s op = effect a s op
