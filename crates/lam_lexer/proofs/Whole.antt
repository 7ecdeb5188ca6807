-- What the loop over a whole text keeps.
use Rattle.std.proofs.Common.{◌≡◌, ℕ, ◌+◌, ◌^◌, ◌<◌, List, [], ◌∷◌, ◌++◌, chars, sym, ap, ◌∙◌, subst, arith, append_assoc}
use Rattle.lam_lexer.specs.declared.token.Token.{Token}
use Rattle.lam_lexer.specs.declared.token.TokenKind.TheVariants as Kind
use Rattle.lam_lexer.specs.declared.lexer.Taken.{Taken}
use Rattle.lam_lexer.specs.declared.fault.LexFault.{LexFault}
use Rattle.lam_lexer.specs.declared.fault.LexFault.TheVariants.{BadChar, BadNumber, BadEscape, OpenText, NoMemory}
use Rattle.lam_lexer.specs.Characters.{first}
use Rattle.lam_lexer.specs.Lexed.{start, token, LexedAt, at_end, then_on, FaultAt, here, later, Wrong, Lexed}
use Rattle.lam_lexer.specs.Reading.{size, tokens_of, IsTaken, OrNoMemory, IsFault}

pub record LexedSoFar (cs : List ℕ) (front : List Token) (rest : List ℕ) (at : ℕ) : Type 0 where
  pub tokens : (ts : List Token) → LexedAt at rest ts → LexedAt 0 cs (front ++ ts)
  pub faults : (f : LexFault) → FaultAt at rest f → FaultAt 0 cs f
  pub place : at + size rest < 2 ^ 64

pub lexed_first : (cs : List ℕ) (front : List Token) → front ≡ [] → size cs < 2 ^ 64 → LexedSoFar cs front cs 0
lexed_first cs front e h =
    let start : LexedSoFar cs [] cs 0 = record { tokens = λ ts l. l; faults = λ f l. l; place = omega (arith, h) } in
    subst (λ (front : List Token). LexedSoFar cs front cs 0) (sym e) start

pub lexed_on : {cs after : List ℕ} {front next : List Token} {at : ℕ} (c : ℕ) (t : Taken) → next ≡ front ++ tokens_of t.token → IsTaken at (start c (first after)) c after t → LexedSoFar cs front (c ∷ after) at → LexedSoFar cs next (chars t.rest.now) t.to
lexed_on {cs} {after} {front} {next} {at} c t e r g = record {
  tokens = λ ts l. subst (λ (x : List Token). LexedAt 0 cs x) (sym (append_assoc front (tokens_of t.token) ts) ∙ ap (λ (x : List Token). x ++ ts) (sym e)) (g.tokens (tokens_of t.token ++ ts) (then_on r.read l));
  faults = λ f l. g.faults f (later r.read l);
  place = omega (arith, g.place, r.place);
}

pub lexed_last : {cs rest : List ℕ} {front next : List Token} {at : ℕ} → rest ≡ [] → next ≡ front ++ token at Kind.End ∷ [] → LexedSoFar cs front rest at → Lexed cs next
lexed_last {cs} {rest} {front} {next} {at} e n g =
    subst (λ (x : List Token). LexedAt 0 cs x) (sym n) (g.tokens (token at Kind.End ∷ []) (subst (λ (r : List ℕ). LexedAt at r (token at Kind.End ∷ [])) (sym e) at_end))

pub lexed_wrong : {cs after : List ℕ} {front : List Token} {at : ℕ} (c : ℕ) → LexedSoFar cs front (c ∷ after) at → (f : LexFault) → OrNoMemory (Wrong at (start c (first after)) c after) f → IsFault cs f
lexed_wrong c g NoMemory h = tt
lexed_wrong c g (BadChar m) h = g.faults (BadChar m) (here h)
lexed_wrong c g (BadNumber m) h = g.faults (BadNumber m) (here h)
lexed_wrong c g (BadEscape m) h = g.faults (BadEscape m) (here h)
lexed_wrong c g (OpenText m) h = g.faults (OpenText m) (here h)

pub lexed_step : {cs rest after : List ℕ} {front next : List Token} {at : ℕ} (c : ℕ) (t : Taken) → rest ≡ c ∷ after → next ≡ front ++ tokens_of t.token → IsTaken at (start c (first after)) c after t → LexedSoFar cs front rest at → LexedSoFar cs next (chars t.rest.now) t.to
lexed_step {cs} {rest} {after} {front} {next} {at} c t e n r g =
    lexed_on c t n r (subst (λ (rest : List ℕ). LexedSoFar cs front rest at) e g)

pub step_wrong : {cs rest after : List ℕ} {front : List Token} {at : ℕ} (c : ℕ) → rest ≡ c ∷ after → LexedSoFar cs front rest at → (f : LexFault) → OrNoMemory (Wrong at (start c (first after)) c after) f → IsFault cs f
step_wrong {cs} {rest} {after} {front} {at} c e g f h = lexed_wrong c (subst (λ (rest : List ℕ). LexedSoFar cs front rest at) e g) f h
