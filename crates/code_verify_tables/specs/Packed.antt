-- What is known of a value as one of sixteen states.
use Rattle.std.specs.Prelude.{◌≡◌, Bool, true, false, if◌then◌else◌, refl}
use Rattle.std.proofs.Common.{ap}
use Rattle.guarded_code.specs.declared.known.ValueKind.{ValueKind}
use Rattle.guarded_code.specs.declared.known.ValueKind.TheVariants.{Number, Truth, Other, Unknown}
use Rattle.guarded_code.specs.declared.known.Known.{Known}
use Rattle.code_verify_tables.specs.declared.packed.KnownState.{KnownState}
use Rattle.code_verify_tables.specs.declared.packed.KnownState.TheVariants as state
use Rattle.code_verify_tables.specs.declared.packed.PackedKnown.TheInside.{Inside}

-- the state with these facts
abbrev pub chosen : Bool → Bool → KnownState → KnownState → KnownState → KnownState → KnownState
chosen read write neither by_read by_write both =
    if read then (if write then both else by_read) else (if write then by_write else neither)

abbrev pub state_for : ValueKind → Bool → Bool → KnownState
state_for Number read write = chosen read write state.Number state.NumberRead state.NumberWrite state.NumberBoth
state_for Truth read write = chosen read write state.Truth state.TruthRead state.TruthWrite state.TruthBoth
state_for Other read write = chosen read write state.Other state.OtherRead state.OtherWrite state.OtherBoth
state_for Unknown read write = chosen read write state.Unknown state.UnknownRead state.UnknownWrite state.UnknownBoth

abbrev pub state_of : Known → KnownState
state_of k = state_for k.kind k.read k.write

abbrev pub known_with : ValueKind → Bool → Bool → Known
known_with kind read write = record { kind = kind; read = read; write = write }

abbrev pub known_of : KnownState → Known
known_of state.Number = known_with Number false false
known_of state.NumberRead = known_with Number true false
known_of state.NumberWrite = known_with Number false true
known_of state.NumberBoth = known_with Number true true
known_of state.Truth = known_with Truth false false
known_of state.TruthRead = known_with Truth true false
known_of state.TruthWrite = known_with Truth false true
known_of state.TruthBoth = known_with Truth true true
known_of state.Other = known_with Other false false
known_of state.OtherRead = known_with Other true false
known_of state.OtherWrite = known_with Other false true
known_of state.OtherBoth = known_with Other true true
known_of state.Unknown = known_with Unknown false false
known_of state.UnknownRead = known_with Unknown true false
known_of state.UnknownWrite = known_with Unknown false true
known_of state.UnknownBoth = known_with Unknown true true

-- both ways, nothing is lost
pub state_again : (s : KnownState) → state_of (known_of s) ≡ s
state_again state.Number = refl
state_again state.NumberRead = refl
state_again state.NumberWrite = refl
state_again state.NumberBoth = refl
state_again state.Truth = refl
state_again state.TruthRead = refl
state_again state.TruthWrite = refl
state_again state.TruthBoth = refl
state_again state.Other = refl
state_again state.OtherRead = refl
state_again state.OtherWrite = refl
state_again state.OtherBoth = refl
state_again state.Unknown = refl
state_again state.UnknownRead = refl
state_again state.UnknownWrite = refl
state_again state.UnknownBoth = refl

pub state_back : (p : Inside) → record { state = state_of (known_of p.state) } ≡ p
state_back p = ap (λ (s : KnownState). let q : Inside = record { state = s } in q) (state_again p.state)

pub known_again : (kind : ValueKind) (read write : Bool) → known_of (state_for kind read write) ≡ known_with kind read write
known_again Number true true = refl
known_again Number true false = refl
known_again Number false true = refl
known_again Number false false = refl
known_again Truth true true = refl
known_again Truth true false = refl
known_again Truth false true = refl
known_again Truth false false = refl
known_again Other true true = refl
known_again Other true false = refl
known_again Other false true = refl
known_again Other false false = refl
known_again Unknown true true = refl
known_again Unknown true false = refl
known_again Unknown false true = refl
known_again Unknown false false = refl
