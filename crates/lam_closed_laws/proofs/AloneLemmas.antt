-- What an observer can tell of a closed run.
use Rattle.std.proofs.Common.{◌≡◌, ℕ, true, List, [], ◌∷◌, sym, ap, ◌∙◌}
use Rattle.std.specs.List.{flat_map}
use Rattle.flow_labels.specs.Flow.{flows, public_label}
use Rattle.flow_labels.specs.declared.Label.{Label}
use Rattle.lam_bytecode.specs.Codes.{CodeTree}
use Rattle.lam_machine_terms.specs.Worlds.{World}
use Rattle.lam_machine_terms.specs.Turns.{Moment, moments}
use Rattle.lam_machine_terms.specs.Views.{trace}
use Rattle.lam_machine_laws.specs.Isolation.{AreWellLabelled}
use Rattle.audit_log.specs.Log.{entry_line, view_lines}
use Rattle.closed_terms.specs.declared.End.{End}
use Rattle.closed_terms.specs.declared.Slot.{Slot}
use Rattle.closed_terms.specs.Schedule.{OthersOpen, RunsTo}
use Rattle.closed_terms.specs.Ends.{IsEnded}
use Rattle.closed_laws.specs.Ordered.{AreStarts, IsOrdered, ReleasesFollow}
use Rattle.closed_laws.specs.Ended.{EndsAreSame, EndsAreLast}
use Rattle.closed_laws.specs.Once.{EndsOnce}
use Rattle.lam_main_words.specs.Words.{Text}
use Rattle.lam_closed_laws.specs.Alone.{IsLike, TellsNoMore}

-- the same entries have the same lines
pub same_lines : (o : Label) (names names' : List Text) (ms ms' : List Moment) → names ≡ names' → trace o ms ≡ trace o ms' → view_lines names o ms ≡ view_lines names' o ms'
same_lines o names names' ms ms' one two = ap (λ (ns : List Text). flat_map (entry_line ns) (trace o ms)) one ∙ ap (flat_map (entry_line names')) two

-- a run that has ended has not ended before its last turn
module _ (b : Label) (code : CodeTree) (Going Last : World → Slot → ℕ → ℕ → Type 0) where
  front_of : (turns : List ℕ) (w : World) (s : Slot) (k j : ℕ) → RunsTo b code Going Last turns w s k j → RunsTo b code Going (λ w s k j. Unit {0}) turns w s k j
  front_of [] w s k j h = tt
  front_of (t ∷ ts) w s k j h =
      let f = h.1 in
      (h.0, record { slot = f.slot; it = f.it; next = f.next; thread = f.thread; takes = f.takes; rest = front_of ts _ _ _ _ f.rest })

module _ (b o : Label) (start s : World) (labelled : AreWellLabelled start) (others : OthersOpen b start 0) (like : IsLike b o start s) where
  pub are_starts : AreStarts b o start s
  are_starts = record { labelled = labelled; labelled' = like.labelled; others = others; others' = like.others; agree = like.agree }

  are_swapped : AreStarts b o s start
  are_swapped = record {
    labelled = like.labelled;
    labelled' = labelled;
    others = like.others;
    others' = others;
    agree = record { names = sym like.agree.names; public = sym like.agree.public; views = sym like.agree.views };
  }

module _ (ordered : (code : CodeTree) (b o : Label) → IsOrdered code b o) (same : (code : CodeTree) (b o : Label) → EndsAreSame code b o) (last : (code : CodeTree) (b o : Label) → EndsAreLast code b o) (follow : (code : CodeTree) (b o : Label) → ReleasesFollow code b o) (once : (code : CodeTree) (b : Label) → EndsOnce code b) where
  module _ (code : CodeTree) (b o : Label) (n : ℕ) (start : World) (turns : List ℕ) (e : End) (public : flows public_label b ≡ true) (labelled : AreWellLabelled start) (outside : OthersOpen b start 0) (ended : IsEnded b code n e turns start) where
    pub tells_no_more : flows b o ≡ true → TellsNoMore code b o n start turns e
    tells_no_more sees =
        let closed = (once code b).closed n start turns e ended in
        record {
          order = λ s others k like run few few' agree. ordered code b o public sees start s turns others k (are_starts b o start s labelled outside like) closed run few few' agree;
          ends = λ s others e' like run p p' agree.
              let looks = same code b o public sees start s turns others n e e' (are_starts b o start s labelled outside like) ended run p p' agree in
              record { looks = looks; lines = same_lines o start.names s.names (moments code turns start) (moments code others s) like.agree.names looks.traces };
          last = λ s others like run p agree. last code b o public sees start s turns others n e (are_starts b o start s labelled outside like) ended run p agree;
          first = λ s others e' like run p agree.
              last code b o public sees s start others turns n e' (are_swapped b o start s labelled outside like) run (front_of b code _ _ turns start _ _ _ ended) p agree;
          follow = follow code b o public sees start turns outside closed;
        }
