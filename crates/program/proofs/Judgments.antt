-- What a check prints, and what is left of a line that is not printed whole.
use Rattle.std.proofs.Common.{◌≡◌, ◌∙◌, ◌++◌, ℕ, List, Option, Some, Result, Ok, Err, IfErr, ap, codes, refl, subst}
use Rattle.std.proofs.Common.{sym}
use Rattle.std.specs.Fmt.{decimal}
use Rattle.office_core.specs.Json.{reply_text}
use Rattle.office_core.specs.Rules.{Reply}
use Rattle.office_core.specs.declared.done.Done.{Done}
use Rattle.office.specs.declared.faults.OpenFault.TheVariants as opening
use Rattle.program.proofs.Common.{Fault, File, History, IsErrAnd, JudgmentFails, ListeningFails, Memory, NotSound}
use Rattle.program.proofs.Common.{OpenFault, Prints, PrintsPart, ReplyFails, Stream, after_listening, line_feed}

-- there was no memory for the line
pub no_line : {X : Type 0} (judged : Option OpenFault) (why : OpenFault) (cause : ℕ) (out : Stream) (r : Result X Fault)
    → judged ≡ Some why → why ≡ opening.Unsound cause → IsErrAnd r (λ f. f ≡ Memory)
    → IfErr r (JudgmentFails judged out out)
no_line judged why cause out (Ok x) some unsound is = tt
no_line judged why cause out (Err f) some unsound is =
    subst (λ j. JudgmentFails j out out f) (sym (some ∙ ap Some unsound))
    (subst (JudgmentFails (Some (opening.Unsound cause)) out out) (sym is) refl)

-- standard output failed before the line was written whole
pub part_of_line : {X : Type 0} (judged : Option OpenFault) (why : OpenFault) (cause : ℕ) (line : List ℕ) (out out_after : Stream) (r : Result X Fault)
    → judged ≡ Some why → why ≡ opening.Unsound cause → line ≡ codes "not sound " ++ decimal cause ++ line_feed
    → PrintsPart line out out_after → IsErrAnd r (λ f. f ≡ File)
    → IfErr r (JudgmentFails judged out out_after)
part_of_line judged why cause line out out_after (Ok x) some unsound is part fault = tt
part_of_line judged why cause line out out_after (Err f) some unsound is part fault =
    subst (λ j. JudgmentFails j out out_after f) (sym (some ∙ ap Some unsound))
    (subst (JudgmentFails (Some (opening.Unsound cause)) out out_after) (sym fault) (subst (λ l. PrintsPart l out out_after) is part))

-- standard output failed before the reply was written whole
pub part_of_reply : {X : Type 0} (reply : Reply) (done : Done) (json : List ℕ) (out out_after : Stream) (r : Result X Fault)
    → reply ≡ Ok done → json ≡ reply_text reply → PrintsPart (json ++ line_feed) out out_after
    → IsErrAnd r (λ f. f ≡ File) → IfErr r (ReplyFails reply out out_after)
part_of_reply reply done json out out_after (Ok x) is text part fault = tt
part_of_reply reply done json out out_after (Err f) is text part fault =
    subst (λ it. ReplyFails it out out_after f) (sym is)
    (subst (ReplyFails (Ok done) out out_after) (sym fault) (subst (λ l. PrintsPart (l ++ line_feed) out out_after) (text ∙ ap reply_text is) part))

pub told_old : (judged : Option OpenFault) (why : OpenFault) (out out_after : Stream) → judged ≡ Some why
    → why ≡ opening.OldVersion
    → Prints (codes "old version\n") out out_after → JudgmentFails judged out out_after NotSound
told_old judged why out out_after some old told =
    subst (λ j. JudgmentFails j out out_after NotSound) (sym (some ∙ ap Some old)) told

pub told_unsound : (judged : Option OpenFault) (why : OpenFault) (cause : ℕ) (line : List ℕ) (out out_after : Stream)
    → judged ≡ Some why → why ≡ opening.Unsound cause
    → line ≡ codes "not sound " ++ decimal cause ++ line_feed → Prints line out out_after
    → JudgmentFails judged out out_after NotSound
told_unsound judged why cause line out out_after some unsound is told =
    subst (λ j. JudgmentFails j out out_after NotSound) (sym (some ∙ ap Some unsound)) (subst (λ l. Prints l out out_after) is told)

-- a server had no memory for its line
pub no_memory : {X : Type 0} (number : ℕ) (out : Stream) (told told_after : Option History) (r : Result X Fault)
    → IsErrAnd r (λ f. f ≡ Memory) → told_after ≡ after_listening told number
    → IfErr r (ListeningFails number out out told told_after)
no_memory number out told told_after (Ok x) is bound = tt
no_memory number out told told_after (Err f) is bound =
    subst (ListeningFails number out out told told_after) (sym is) (refl, bound)
