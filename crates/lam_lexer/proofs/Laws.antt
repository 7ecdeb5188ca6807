-- A text has one list of tokens or one first fault.
use Rattle.std.proofs.Common.{◌≡◌, ℕ, ◌+◌, ◌<◌, ◌≤◌, ◌⊎◌, inl, inr, List, [], ◌∷◌, ◌++◌, Result, Ok, Err, MatchResult, Vec, Global, length, refl, sym, ap, ◌∙◌, subst, arith}
use Rattle.std.proofs.lemmas.Bool.{both_ways}
use Rattle.lam_lexer.specs.declared.token.Token.{Token}
use Rattle.lam_lexer.specs.declared.start.Start.{Start}
use Rattle.lam_lexer.specs.declared.fault.LexFault.{LexFault}
use Rattle.lam_lexer.specs.declared.fault.LexFault.TheVariants.{BadChar, BadNumber, BadEscape, OpenText, NoMemory}
use Rattle.lam_lexer.specs.Text.{Part, end_quote, means, bad_escape, no_end, room, Means, ends, goes_on, TextFault, bad, open_end, too_long}
use Rattle.lam_lexer.specs.Text as text
use Rattle.lam_lexer.specs.declared.token.TokenKind.TheVariants as Kind
use Rattle.lam_lexer.specs.Lexed.{token, Lexes, a_space, a_comment, a_name, a_number, a_text, a_mark, a_long_mark, Wrong, strange, great, joined, in_text, LexedAt, at_end, then_on, FaultAt, here, later, Lexed, FirstFault}
use Rattle.lam_lexer.specs.Reading.{IsFault}

-- ---- texts

abbrev Ends : List ℕ → ℕ → List ℕ → List ℕ → ℕ → List ℕ → Type 0
Ends bs s r bs' s' r' = ◌≡◌ {A = List ℕ × ℕ × List ℕ} (bs, s, r) (bs', s', r')

one_end : {p : Part} {r r' : List ℕ} → p ≡ end_quote r → p ≡ end_quote r' → r ≡ r'
one_end h k = cc

one_bytes : {p : Part} {bs r bs' r' : List ℕ} {s s' : ℕ} → p ≡ means bs s r → p ≡ means bs' s' r' → bs ≡ bs'
one_bytes h k = cc

one_size : {p : Part} {bs r bs' r' : List ℕ} {s s' : ℕ} → p ≡ means bs s r → p ≡ means bs' s' r' → s ≡ s'
one_size h k = cc

one_rest : {p : Part} {bs r bs' r' : List ℕ} {s s' : ℕ} → p ≡ means bs s r → p ≡ means bs' s' r' → r ≡ r'
one_rest h k = cc

end_or_bytes : {p : Part} {r bs r' : List ℕ} {s : ℕ} → p ≡ end_quote r → p ≡ means bs s r' → ⊥
end_or_bytes h k = cc

end_or_bad : {p : Part} {r : List ℕ} → p ≡ end_quote r → p ≡ bad_escape → ⊥
end_or_bad h k = cc

end_or_open : {p : Part} {r : List ℕ} → p ≡ end_quote r → p ≡ no_end → ⊥
end_or_open h k = cc

bytes_or_bad : {p : Part} {bs r : List ℕ} {s : ℕ} → p ≡ means bs s r → p ≡ bad_escape → ⊥
bytes_or_bad h k = cc

bytes_or_open : {p : Part} {bs r : List ℕ} {s : ℕ} → p ≡ means bs s r → p ≡ no_end → ⊥
bytes_or_open h k = cc

bad_or_open : {p : Part} → p ≡ bad_escape → p ≡ no_end → ⊥
bad_or_open h k = cc

move_means : (n : ℕ) {b b' cs cs' bs r : List ℕ} {s : ℕ} → b ≡ b' → cs ≡ cs' → Means (n + length b') cs' bs s r → Means (n + length b) cs bs s r
move_means n {b} {b'} {cs} {cs'} {bs} {r} {s} e q h =
    subst (λ (b : List ℕ). Means (n + length b) cs bs s r) (sym e) (subst (λ (cs : List ℕ). Means (n + length b') cs bs s r) (sym q) h)

means_once : {n s s' : ℕ} {cs bs r bs' r' : List ℕ} → Means n cs bs s r → Means n cs bs' s' r' → Ends bs s r bs' s' r'
means_once (ends p) (ends q) = ap (λ (r : List ℕ). ([], 1, r)) (one_end p q)
means_once (ends p) (goes_on q l h) = absurd (end_or_bytes p q)
means_once (goes_on p k g) (ends q) = absurd (end_or_bytes q p)
means_once {r' = r'} (goes_on {size = size} {bytes = b} p k g) (goes_on {size = size'} {more = s'} {bytes = b'} {others = bs'} q l h) =
    let r = means_once g (move_means _ (one_bytes p q) (one_rest p q) h) in
    ap (λ (x : List ℕ × ℕ × List ℕ). (b ++ x.0, size + x.1, x.2)) r ∙ ap (λ (b : List ℕ). (b ++ bs', size + s', r')) (one_bytes p q) ∙ ap (λ (size : ℕ). (b' ++ bs', size + s', r')) (one_size p q)

move_fault : (quote n at : ℕ) {b b' cs cs' : List ℕ} {s s' : ℕ} {f : LexFault} → b ≡ b' → s ≡ s' → cs ≡ cs' → TextFault quote (n + length b') (at + s') cs' f → TextFault quote (n + length b) (at + s) cs f
move_fault quote n at {b} {b'} {cs} {cs'} {s} {s'} {f} e d q h =
    subst (λ (b : List ℕ). TextFault quote (n + length b) (at + s) cs f) (sym e) (subst (λ (s : ℕ). TextFault quote (n + length b') (at + s) cs f) (sym d) (subst (λ (cs : List ℕ). TextFault quote (n + length b') (at + s') cs f) (sym q) h))

no_room : (n : ℕ) {b b' : List ℕ} → b ≡ b' → n + length b ≤ room → room < n + length b' → ⊥
no_room n e h k = omega (arith, ap length e)

means_never : {quote n at s : ℕ} {cs bs r : List ℕ} {f : LexFault} → Means n cs bs s r → TextFault quote n at cs f → ⊥
means_never (ends p) (bad q) = end_or_bad p q
means_never (ends p) (open_end q) = end_or_open p q
means_never (ends p) (too_long q l) = end_or_bytes p q
means_never (ends p) (text.TextFault.later q l h) = end_or_bytes p q
means_never (goes_on p k g) (bad q) = bytes_or_bad p q
means_never (goes_on p k g) (open_end q) = bytes_or_open p q
means_never (goes_on p k g) (too_long q l) = no_room _ (one_bytes p q) k l
means_never (goes_on p k g) (text.TextFault.later q l h) = means_never g (move_fault _ _ _ (one_bytes p q) (one_size p q) (one_rest p q) h)

text_fault_once : {quote n at : ℕ} {cs : List ℕ} {f f' : LexFault} → TextFault quote n at cs f → TextFault quote n at cs f' → f ≡ f'
text_fault_once (bad p) (bad q) = refl
text_fault_once (bad p) (open_end q) = absurd (bad_or_open p q)
text_fault_once (bad p) (too_long q l) = absurd (bytes_or_bad q p)
text_fault_once (bad p) (text.TextFault.later q l h) = absurd (bytes_or_bad q p)
text_fault_once (open_end p) (bad q) = absurd (bad_or_open q p)
text_fault_once (open_end p) (open_end q) = refl
text_fault_once (open_end p) (too_long q l) = refl
text_fault_once (open_end p) (text.TextFault.later q l h) = absurd (bytes_or_open q p)
text_fault_once (too_long p k) (bad q) = absurd (bytes_or_bad p q)
text_fault_once (too_long p k) (open_end q) = refl
text_fault_once (too_long p k) (too_long q l) = refl
text_fault_once (too_long p k) (text.TextFault.later q l h) = absurd (no_room _ (one_bytes q p) l k)
text_fault_once (text.TextFault.later p k g) (bad q) = absurd (bytes_or_bad p q)
text_fault_once (text.TextFault.later p k g) (open_end q) = absurd (bytes_or_open p q)
text_fault_once (text.TextFault.later p k g) (too_long q l) = absurd (no_room _ (one_bytes p q) k l)
text_fault_once (text.TextFault.later p k g) (text.TextFault.later q l h) = text_fault_once g (move_fault _ _ _ (one_bytes p q) (one_size p q) (one_rest p q) h)

-- ---- what stands first

abbrev Same : List Token → ℕ → List ℕ → List Token → ℕ → List ℕ → Type 0
Same ts to r ts' to' r' = ◌≡◌ {A = List Token × ℕ × List ℕ} (ts, to, r) (ts', to', r')

reads_once : {at to to' : ℕ} {s : Start} {cs r r' : List ℕ} {ts ts' : List Token} → Lexes at s cs ts to r → Lexes at s cs ts' to' r' → Same ts to r ts' to' r'
reads_once a_space a_space = refl
reads_once a_comment a_comment = refl
reads_once a_name a_name = refl
reads_once (a_number a b) (a_number d e) = refl
reads_once {at} (a_text m) (a_text m') = ap (λ (x : List ℕ × ℕ × List ℕ). (token at (Kind.Text x.0) ∷ [], at + 1 + x.1, x.2)) (means_once m m')
reads_once a_mark a_mark = refl
reads_once a_long_mark a_long_mark = refl

reads_never : {at c : ℕ} {cs : List ℕ} {s : Start} {to : ℕ} {r : List ℕ} {ts : List Token} {f : LexFault} → Lexes at s (c ∷ cs) ts to r → Wrong at s c cs f → ⊥
reads_never a_space x = elim x [ ]
reads_never a_comment x = elim x [ ]
reads_never a_name x = elim x [ ]
reads_never a_mark x = elim x [ ]
reads_never a_long_mark x = elim x [ ]
reads_never (a_number small alone) (great large) = omega arith
reads_never (a_number small alone) (joined more) = both_ways _ alone more
reads_never (a_text m) (in_text b) = means_never m b

wrong_once : {at c : ℕ} {s : Start} {cs : List ℕ} {f f' : LexFault} → Wrong at s c cs f → Wrong at s c cs f' → f ≡ f'
wrong_once strange strange = refl
wrong_once (great a) (great b) = refl
wrong_once (great a) (joined b) = refl
wrong_once (joined a) (great b) = refl
wrong_once (joined a) (joined b) = refl
wrong_once (in_text a) (in_text b) = text_fault_once a b

-- ---- whole texts

move_lexed : {to to' : ℕ} {r r' : List ℕ} {ts ts' us : List Token} → Same ts to r ts' to' r' → LexedAt to' r' us → LexedAt to r us
move_lexed {us = us} q h = subst (λ (x : List Token × ℕ × List ℕ). LexedAt x.1 x.2 us) (sym q) h

move_faults : {to to' : ℕ} {r r' : List ℕ} {ts ts' : List Token} {f : LexFault} → Same ts to r ts' to' r' → FaultAt to' r' f → FaultAt to r f
move_faults {f = f} q h = subst (λ (x : List Token × ℕ × List ℕ). FaultAt x.1 x.2 f) (sym q) h

pub lexed_once : {at : ℕ} {cs : List ℕ} {ts us : List Token} → LexedAt at cs ts → LexedAt at cs us → ts ≡ us
lexed_once at_end at_end = refl
lexed_once (then_on {tokens = ts} {others = more} s h) (then_on {tokens = us} {others = others} s' h') =
    let q = reads_once s s' in
    let x : ts ≡ us = ap (λ (x : List Token × ℕ × List ℕ). x.0) q in
    let y : more ≡ others = lexed_once h (move_lexed q h') in
    ap (λ (ts : List Token). ts ++ more) x ∙ ap (λ (more : List Token). us ++ more) y

pub lexed_never : {at : ℕ} {cs : List ℕ} {ts : List Token} {f : LexFault} → LexedAt at cs ts → FaultAt at cs f → ⊥
lexed_never {f = f} (at_end {at = at}) x = elim x [ ]
lexed_never (then_on s h) (here b) = reads_never s b
lexed_never (then_on s h) (later s' h') = lexed_never h (move_faults (reads_once s s') h')

pub fault_once : {at : ℕ} {cs : List ℕ} {f f' : LexFault} → FaultAt at cs f → FaultAt at cs f' → f ≡ f'
fault_once (here b) (here b') = wrong_once b b'
fault_once (here b) (later s h) = absurd (reads_never s b)
fault_once (later s h) (here b) = absurd (reads_never s b)
fault_once (later s h) (later s' h') = fault_once h (move_faults (reads_once s s') h')

-- ---- what the reading function finds

pub finds_tokens : (cs : List ℕ) (r : Result (Vec Token Global) LexFault) → MatchResult r (λ v. Lexed cs v.items) (IsFault cs) → (ts : List Token) → Lexed cs ts → MatchResult r (λ v. v.items ≡ ts) (λ f. f ≡ NoMemory)
finds_tokens cs (Ok v) h ts l = lexed_once h l
finds_tokens cs (Err NoMemory) h ts l = refl
finds_tokens cs (Err (BadChar m)) h ts l = absurd (lexed_never l h)
finds_tokens cs (Err (BadNumber m)) h ts l = absurd (lexed_never l h)
finds_tokens cs (Err (BadEscape m)) h ts l = absurd (lexed_never l h)
finds_tokens cs (Err (OpenText m)) h ts l = absurd (lexed_never l h)

pub finds_fault : (cs : List ℕ) (r : Result (Vec Token Global) LexFault) → MatchResult r (λ v. Lexed cs v.items) (IsFault cs) → (f : LexFault) → FirstFault cs f → MatchResult r (λ _. ⊥) (λ e. (e ≡ NoMemory) ⊎ (e ≡ f))
finds_fault cs (Ok v) h f b = lexed_never h b
finds_fault cs (Err NoMemory) h f b = inl refl
finds_fault cs (Err (BadChar m)) h f b = inr (fault_once h b)
finds_fault cs (Err (BadNumber m)) h f b = inr (fault_once h b)
finds_fault cs (Err (BadEscape m)) h f b = inr (fault_once h b)
finds_fault cs (Err (OpenText m)) h f b = inr (fault_once h b)
