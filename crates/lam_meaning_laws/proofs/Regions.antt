-- Regions, beside those of nested code.
use Rattle.std.proofs.Common.{◌≡◌, ℕ, ℤ, true, List, [], ◌∷◌, ◌++◌, length, refl, subst}
use Rattle.std.specs.Prelude.{◌-◌, replicate}
use Rattle.flow_labels.specs.declared.Label.{Label}
use Rattle.capabilities.specs.declared.Caps.{Caps}
use Rattle.lam_value.specs.declared.values.Value.{Value}
use Rattle.lam_value.specs.declared.values.Value.TheVariants.{Int, Nothing, Lab, CapV}
use Rattle.lam_asks.specs.declared.fault.Fault.{Fault}
use Rattle.lam_asks.specs.declared.fault.Fault.TheVariants.{Null}
use Rattle.lam_asks.specs.Faults.{fault_number}
use Rattle.lam_asks.specs.declared.answer.Answer.{Answer}
use Rattle.lam_asks.specs.declared.answer.Answer.TheVariants.{Done, Entered, Val, Refused, Failed}
use Rattle.lam_asks.specs.declared.ask.Ask.{Ask}
use Rattle.lam_asks.specs.declared.ask.Ask.TheVariants as ask
use Rattle.lam_asks.specs.Suits.{numbers, is_done, always, fits}
use Rattle.thread_steps.specs.Ops.{wants, on_caps, on_label}
use Rattle.lam_meaning_typed.specs.Trees.{Own, with_local, asked, End, goes, raises, leaves, Tree, asks, on_end, done_reply, on_region}
use Rattle.lam_meaning_typed.specs.Means as means
use Rattle.lam_meaning_typed.specs.Means.{At, inside, caught_end, body_end, enter_reply, region}
use Rattle.lam_meaning_laws.specs.Gathers.{Along, with_own, answered, Out, gone, and_on, Does, Caller, replied, did, awaits, ends_by, after_catch, caught, after_body, region_by}
use Rattle.lam_meaning_laws.proofs.Plays.{Keep, Held, along, stands, told, EndSized, Matches, MatchesAt, end_on, onto_same}
use Rattle.lam_meaning_laws.proofs.Operations.{stays, ask_at, fails_at}

-- the context of a region holds no monitor
abbrev pub no_monitors : Held
no_monitors ls = []

abbrev pub within_unit : ℕ → Keep
within_unit size = record { size = size; base = [] }

module _ (kp : Keep) (H : Held) (outer : Own) (size : length outer.locals ≡ kp.size) where
  -- the last ask, after which the context around is as it was
  pub last_same : (a : Ask) (n : ℕ) (xs : List Answer) (made : List Ask) (o : Own) → Matches kp H (λ (u : Unit {0}). u) (asks (record { ask = a; want = always is_done }) (λ x. done_reply tt n outer x)) xs made (ends_by a outer (H outer.locals) xs n (along o xs made))
  last_same a n [] made o = record { by = λ ok. refl; keeps = tt }
  last_same a n (Done ∷ xs) made o = record { by = λ ok. refl; keeps = size }
  last_same a n (x ∷ xs) made o = record { by = λ ok. absurd ok; keeps = tt }

  module _ (slots : ℕ) where
    catch_same : (t : Tree (Unit {0})) (st : Along) (r : Out (List Value)) → MatchesAt (within_unit slots) no_monitors (stays []) t st r → MatchesAt kp H (λ (u : Unit {0}). u) (on_end t (caught_end outer)) st (after_catch outer (H outer.locals) r)
    catch_same t st r m = end_on (within_unit slots) kp no_monitors H (stays []) (λ (u : Unit {0}). u) t st.answers st.asks r (caught_end outer) (after_catch outer (H outer.locals)) (λ how made. refl) go m
      where
        go : (e : End (Unit {0})) → EndSized slots e → (xs : List Answer) (made : List Ask) → Matches kp H (λ (u : Unit {0}). u) (caught_end outer e) xs made (after_catch outer (H outer.locals) (told (stays []) (stands (within_unit slots) no_monitors e xs made)))
        go (goes a n o) sized xs made = last_same ask.Leave n xs made o
        go (raises f n o) sized xs made = last_same (ask.Suppressed f) n xs made o
        go (leaves v n o) sized xs made = record { by = λ ok. absurd ok; keeps = tt }

    -- a catch block, which finds the fault's number
    abbrev pub SameHandler : ℕ → (ℕ → Own → Tree (Unit {0})) → (List Value → ℕ → Along → Out (List Value)) → Type 0
    SameHandler slot f g = (z : ℤ) (n : ℕ) (st : Along) → length st.own.locals ≡ slots → MatchesAt (within_unit slots) no_monitors (stays []) (f n (with_local st.own slot (Int z))) st (g (Int z ∷ []) n st)

    caught_same : (slot : ℕ) (f : Fault) (n : ℕ) (handler : ℕ → Own → Tree (Unit {0})) (handler' : List Value → ℕ → Along → Out (List Value)) → SameHandler slot handler handler' → (xs : List Answer) (made : List Ask) (o : Own) → length o.locals ≡ slots → Matches kp H (λ (u : Unit {0}). u) (body_end outer slot handler (raises f n o)) xs made (caught xs f (along o xs made) (λ st. after_catch outer (H outer.locals) (handler' (Int (fault_number f) ∷ []) n st)))
    unfolding on_end
    caught_same slot f n handler handler' mh [] made o l = record { by = λ ok. refl; keeps = tt }
    caught_same slot f n handler handler' mh (Done ∷ xs) made o l =
        let st' = along o xs (made ++ ask.Caught f ∷ []) in
        let m = catch_same (handler n (with_local o slot (Int (fault_number f)))) st' (handler' (Int (fault_number f) ∷ []) n st') (mh (fault_number f) n st' l) in
        record { by = m.by; keeps = m.keeps }
    caught_same slot f n handler handler' mh (x ∷ xs) made o l = record { by = λ ok. absurd ok; keeps = tt }

    body_same : (slot : ℕ) (handler : ℕ → Own → Tree (Unit {0})) (handler' : List Value → ℕ → Along → Out (List Value)) → SameHandler slot handler handler' → (t : Tree (Unit {0})) (st : Along) (r : Out (List Value)) → MatchesAt (within_unit slots) no_monitors (stays []) t st r → MatchesAt kp H (λ (u : Unit {0}). u) (on_end t (body_end outer slot handler)) st (after_body outer (H outer.locals) handler' r)
    body_same slot handler handler' mh t st r m = end_on (within_unit slots) kp no_monitors H (stays []) (λ (u : Unit {0}). u) t st.answers st.asks r (body_end outer slot handler) (after_body outer (H outer.locals) handler') (λ how made. refl) go m
      where
        go : (e : End (Unit {0})) → EndSized slots e → (xs : List Answer) (made : List Ask) → Matches kp H (λ (u : Unit {0}). u) (body_end outer slot handler e) xs made (after_body outer (H outer.locals) handler' (told (stays []) (stands (within_unit slots) no_monitors e xs made)))
        go (goes a n o) sized xs made = last_same ask.Leave n xs made o
        go (raises f n o) sized xs made = caught_same slot f n handler handler' mh xs made o sized
        go (leaves v n o) sized xs made = record { by = λ ok. absurd ok; keeps = tt }

-- a body and a catch block in a unit of its own, beside their code
module _ (kp : Keep) (H : Held) (caller : Caller) (slots slot number : ℕ) (vs locals : List Value) (body handler : means.Does) (body' handler' : Does)
    (bodies : (l : Label) (n : ℕ) (st : Along) → length st.own.locals ≡ slots → MatchesAt (within_unit slots) no_monitors (stays []) (body (inside l) n st.own) st (body' (inside l) n [] [] st))
    (handlers : (l : Label) (z : ℤ) (n : ℕ) (st : Along) → length st.own.locals ≡ slots → MatchesAt (within_unit slots) no_monitors (stays []) (handler (inside l) n (with_local st.own slot (Int z))) st (handler' (inside l) n (Int z ∷ []) [] st))
    (same : locals ≡ vs ++ replicate (slots - length vs) Nothing) (whole : length locals ≡ slots) where
  entered_same : (l : Label) (k : Caps) (n : ℕ) (s : List Value) (st : Along) → length st.own.locals ≡ kp.size → MatchesAt kp H (stays s) (on_end (body (inside l) n (record { locals = locals; caps = k })) (body_end st.own slot (λ n o. handler (inside l) n o))) st (and_on (region_by slots body' handler' l k vs n (H st.own.locals) st) (λ u n held st. gone s n held st))
  entered_same l k n s st size =
      onto_same kp H (stays s) _ st _
      (subst (λ ls. MatchesAt kp H (λ (u : Unit {0}). u) (on_end (body (inside l) n (record { locals = locals; caps = k })) (body_end st.own slot (λ n o. handler (inside l) n o))) st (after_body st.own (H st.own.locals) (λ s n st. handler' (inside l) n s [] st) (body' (inside l) n [] [] (with_own st (record { locals = ls; caps = k }))))) same
      (let st1 : Along = with_own st (record { locals = locals; caps = k }) in
      let m = body_same kp H st.own size slots slot (λ n o. handler (inside l) n o) (λ s n st. handler' (inside l) n s [] st) (handlers l) (body (inside l) n st1.own) st1 (body' (inside l) n [] [] st1) (bodies l n st1 whole) in
      record { by = m.by; keeps = m.keeps }))

  region_at : (p : At) (l : Label) (k : Caps) (n : ℕ) (s : List Value) (st : Along) → length st.own.locals ≡ kp.size → MatchesAt kp H (stays s) (region l k number vs locals slot body handler n st.own) st (awaits (region_by slots body' handler') (ask.Enter l k number vs) s st.answers n (H st.own.locals) st)
  region_at p l k n s st size = ask_at kp H (stays s) (asked numbers (ask.Enter l k number vs)) _ (region_by slots body' handler') s n (H st.own.locals) st each
    where
      each : (x : Answer) → fits (asked numbers (ask.Enter l k number vs)).want x ≡ true → (rest : List Answer) → MatchesAt kp H (stays s) (enter_reply (on_end (body (inside l) n (record { locals = locals; caps = k })) (body_end st.own slot (λ n o. handler (inside l) n o))) n st.own x) (answered st rest (ask.Enter l k number vs)) (replied (region_by slots body' handler') (ask.Enter l k number vs) s x n (H st.own.locals) (answered st rest (ask.Enter l k number vs)))
      each Entered ok rest = let m = entered_same l k n s (answered st rest (ask.Enter l k number vs)) size in record { by = m.by; keeps = m.keeps }
      each (Refused d) ok rest = record { by = λ b. refl; keeps = size }
      each (Failed f) ok rest = record { by = λ b. refl; keeps = size }
      each Done ok rest = record { by = λ b. absurd b; keeps = tt }
      each (Val v) ok rest = record { by = λ b. absurd b; keeps = tt }

  -- from its label and capabilities
  pub place_at : (p : At) (v c : Value) (n : ℕ) (s : List Value) (st : Along) → length st.own.locals ≡ kp.size → MatchesAt kp H (stays s) (on_region v c n st.own (λ l k. region l k number vs locals slot body handler n st.own)) st (did caller (region_by slots body' handler') (on_caps (c ∷ v ∷ s) (λ c s. on_label s (λ l s. wants (ask.Enter l c number vs) s))) p n (H st.own.locals) st)
  place_at p (Lab l) (CapV plus minus) n s st size = region_at p l (record { plus = plus; minus = minus }) n s st size
  place_at p (Lab l) Nothing n s st size = fails_at kp H caller (region_by slots body' handler') p n s st size (stays s) Null (H st.own.locals)
  place_at p Nothing (CapV plus minus) n s st size = fails_at kp H caller (region_by slots body' handler') p n s st size (stays s) Null (H st.own.locals)
  place_at p Nothing Nothing n s st size = fails_at kp H caller (region_by slots body' handler') p n s st size (stays s) Null (H st.own.locals)
  place_at p v c n s st size = record { by = λ ok. absurd ok; keeps = tt }
