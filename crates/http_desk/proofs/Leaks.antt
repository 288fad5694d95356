-- Sessions of the public in offices whose public parts are equal.
use Rattle.std.proofs.Common.{◌≡◌, inl, inr, ℕ, suc, List, [], ◌∷◌, ◌++◌, length, refl, sym, ap, ◌∙◌, subst, true}
use Rattle.std.proofs.Common.{false, Bool, append_assoc, append-nil}
use Rattle.office_core.proofs.NoLeak.{answers_alike}
use Rattle.http_desk.proofs.Common.{AllByRecursion, Answers, AnswersAlike, AreAlike, AsksThePublic, Begins, BodyCut}
use Rattle.http_desk.proofs.Common.{Bytes, Cuts, Ended, EndsSo, Fails, HasEnded, HeadCut, IsFront, IsPublicGet, Last}
use Rattle.http_desk.proofs.Common.{Message, NoHead, Nothing, Refuses, SamePublic, Session, Stands, State, closes}
use Rattle.http_desk.proofs.Common.{is_busy, last_text, message_text, state_after_message, state_after_messages}
use Rattle.http_desk.proofs.Common.{text_after_all, until_busy, was_busy}
use Rattle.http_desk.proofs.Courses.{Meet, same, first_fails, second_fails, meeting, whole_text, ends_unique}
use Rattle.http_desk.proofs.Courses.{true_not_false}
use Rattle.http_desk.proofs.Public.{text_alike, all_alike}

pub cuts_more : (input : Bytes) (ms : List Message) (middle : Bytes) (m : Message) (rest : Bytes) → Cuts input ms middle
    → Begins middle m rest → Cuts input (ms ++ m ∷ []) rest
cuts_more input [] middle m rest e b = (rest, subst (λ i. Begins i m rest) (sym e) b, refl)
cuts_more input (n ∷ ms) middle m rest (more, first, others) b = (more, first, cuts_more more ms middle m rest others b)

last_one : (P : Message → Type 0) (ms : List Message) (m : Message) → AllByRecursion P (ms ++ m ∷ []) → P m
last_one P [] m h = h.0
last_one P (n ∷ ms) m h = last_one P ms m h.1

-- what stands last is answered alike
last_alike : (number : ℕ) (s t : State) (input rest : Bytes) (ms : List Message) (l : Last) → AnswersAlike s t
    → AsksThePublic input → Cuts input ms rest → Stands rest l
    → last_text number s l ≡ last_text number t l
last_alike number s t input rest ms Nothing alike asks cut x = refl
last_alike number s t input rest ms HeadCut alike asks cut x = refl
last_alike number s t input rest ms (BodyCut r) alike asks cut x = refl
last_alike number s t input rest ms NoHead alike asks cut x = refl
last_alike number s t input rest ms (Refuses c b) alike asks cut x = refl
last_alike number s t input rest ms (Answers m) alike asks cut x =
    text_alike s t (closes number m) m alike (last_one IsPublicGet ms m (asks (ms ++ m ∷ []) x.0 (cuts_more input ms rest m x.0 cut x.1)))
last_alike number s t input rest ms (Fails a b) alike asks cut x = refl

pub text_append : (ms ns : List Message) (s : State)
    → text_after_all s (ms ++ ns) ≡ text_after_all s ms ++ text_after_all (state_after_messages s ms) ns
text_append [] ns s = refl
text_append (m ∷ ms) ns s =
    ap (λ l. message_text false s m ++ l) (text_append ms ns (state_after_message s m))
    ∙ sym (append_assoc (message_text false s m) (text_after_all (state_after_message s m) ms) (text_after_all (state_after_messages (state_after_message s m) ms) ns))

front_equal : (x y : Bytes) → x ≡ y → IsFront x y
front_equal x y e = ([], sym e ∙ sym (append-nil x))

-- the messages before the place where an office is busy are answered in the other one too
front_of_other : (s t : State) (ms ns more : List Message) (out tail : Bytes) → AnswersAlike s t
    → AllByRecursion IsPublicGet ms
    → ns ≡ ms ++ more → out ≡ text_after_all t ns ++ tail → IsFront (text_after_all s ms) out
front_of_other s t ms ns more out tail alike p e f = (
  text_after_all (state_after_messages t ms) more ++ tail,
  f ∙ ap (λ l. text_after_all t l ++ tail) e ∙ ap (λ l. l ++ tail) (text_append ms more t)
      ∙ append_assoc (text_after_all t ms) (text_after_all (state_after_messages t ms) more) tail
      ∙ ap (λ l. l ++ (text_after_all (state_after_messages t ms) more ++ tail)) (sym (all_alike s t ms alike p).texts),
)

alike_back : (s t : State) → AnswersAlike s t → AnswersAlike t s
alike_back s t h asked p = sym (h asked p)

module _ (s t : State) (input out out2 : Bytes) (end fin : Ended) (new new2 : State)
    (a : Session s input out end new) (b : Session t input out2 fin new2)
    (alike : AnswersAlike s t) (asks : AsksThePublic input) (h : HasEnded end) (k : HasEnded fin) where
  busy_text : was_busy a ≡ true → until_busy a ≡ text_after_all s a.messages
  busy_text e = rw e

  busy_text_too : was_busy b ≡ true → until_busy b ≡ text_after_all t b.messages
  busy_text_too e = rw e

  quiet_text : was_busy a ≡ false → until_busy a ≡ out
  quiet_text e = rw e

  quiet_text_too : was_busy b ≡ false → until_busy b ≡ out2
  quiet_text_too e = rw e

  both_same : a.messages ≡ b.messages → a.stops.last ≡ b.stops.last → (out ≡ out2) × (end ≡ fin)
  both_same e f =
      let pa = all_alike s t a.messages alike (asks a.messages a.rest a.cut) in
      let number = suc (length b.messages) in
      let numbers : suc (length a.messages) ≡ number = ap (λ ms. suc (length ms)) e in
      let mine : last_text (suc (length a.messages)) (state_after_messages s a.messages) a.stops.last ≡ last_text (suc (length a.messages)) s a.stops.last =
      ap (λ x. last_text (suc (length a.messages)) x a.stops.last) pa.kept in
      let theirs : last_text (suc (length a.messages)) (state_after_messages t a.messages) a.stops.last ≡ last_text (suc (length a.messages)) t a.stops.last =
      ap (λ x. last_text (suc (length a.messages)) x a.stops.last) pa.kept_too in
      let lasts =
      mine
      ∙ last_alike (suc (length a.messages)) s t input a.rest a.messages a.stops.last alike asks a.cut a.stops.stands
      ∙ sym theirs in
      let text : List Message → Last → Bytes =
      λ ms l. text_after_all t ms ++ last_text (suc (length ms)) (state_after_messages t ms) l in
      let moved : text a.messages a.stops.last ≡ text b.messages b.stops.last = λ i. text (e i) (f i) in
      let there : EndsSo number b.stops.last end = subst (λ l. EndsSo number l end) f (subst (λ n. EndsSo n a.stops.last end) numbers a.stops.ends) in (
        whole_text s input out end new a h ∙ (λ i. pa.texts i ++ lasts i) ∙ moved ∙ sym (whole_text t input out2 fin new2 b k),
        ends_unique number b.stops.last end fin there b.stops.ends h k,
      )

  front_here : (more : List Message) → b.messages ≡ a.messages ++ more → IsFront (text_after_all s a.messages) out2
  front_here more e = front_of_other s t a.messages b.messages more out2 _ alike (asks a.messages a.rest a.cut) e (whole_text t input out2 fin new2 b k)

  front_there : (more : List Message) → a.messages ≡ b.messages ++ more → IsFront (text_after_all t b.messages) out
  front_there more e = front_of_other t s b.messages a.messages more out _ (alike_back s t alike) (asks b.messages b.rest b.cut) e (whole_text s input out end new a h)

  front_both : (more : List Message) → b.messages ≡ a.messages ++ more → was_busy a ≡ true → (c : Bool) → was_busy b ≡ c
      → IsFront (until_busy a) (until_busy b)
  front_both more e f true g =
      let here = front_of_other s t a.messages b.messages more (text_after_all t b.messages) [] alike (asks a.messages a.rest a.cut) e (sym (append-nil (text_after_all t b.messages))) in
      subst (λ x. IsFront x (until_busy b)) (sym (busy_text f)) (subst (λ y. IsFront (text_after_all s a.messages) y) (sym (busy_text_too g)) here)
  front_both more e f false g =
      subst (λ x. IsFront x (until_busy b)) (sym (busy_text f)) (subst (λ y. IsFront (text_after_all s a.messages) y) (sym (quiet_text_too g)) (front_here more e))

  front_both_too : (more : List Message) → a.messages ≡ b.messages ++ more → was_busy b ≡ true → (c : Bool)
      → was_busy a ≡ c → IsFront (until_busy b) (until_busy a)
  front_both_too more e f true g =
      let here = front_of_other t s b.messages a.messages more (text_after_all s a.messages) [] (alike_back s t alike) (asks b.messages b.rest b.cut) e (sym (append-nil (text_after_all s a.messages))) in
      subst (λ x. IsFront x (until_busy a)) (sym (busy_text_too f)) (subst (λ y. IsFront (text_after_all t b.messages) y) (sym (busy_text g)) here)
  front_both_too more e f false g =
      subst (λ x. IsFront x (until_busy a)) (sym (busy_text_too f)) (subst (λ y. IsFront (text_after_all t b.messages) y) (sym (quiet_text g)) (front_there more e))

  same_front : a.messages ≡ b.messages → a.stops.last ≡ b.stops.last → (c : Bool) → was_busy a ≡ c
      → IsFront (until_busy a) (until_busy b)
  same_front e f true g =
      let all = e ∙ sym (append-nil b.messages) in
      front_both [] (sym e ∙ sym (append-nil a.messages)) g true (ap is_busy (sym f) ∙ g)
  same_front e f false g =
      front_equal (until_busy a) (until_busy b) (quiet_text g ∙ (both_same e f).0 ∙ sym (quiet_text_too (ap is_busy (sym f) ∙ g)))

  pub leak_meet : Meet a.messages a.stops.last b.messages b.stops.last → AreAlike a b
  leak_meet (same e f) = record {
    first = λ g q. absurd (true_not_false (was_busy b) (ap is_busy (sym f) ∙ g) q);
    second = λ g q. absurd (true_not_false (was_busy a) (ap is_busy f ∙ q) g);
    both = inl (same_front e f (was_busy a) refl);
    neither = λ g q. both_same e f;
  }
  leak_meet (first_fails more e f) = record {
    first = λ g q. subst (λ x. IsFront x out2) (sym (busy_text f)) (front_here more e);
    second = λ g q. absurd (true_not_false (was_busy a) f g);
    both = inl (front_both more e f (was_busy b) refl);
    neither = λ g q. absurd (true_not_false (was_busy a) f g);
  }
  leak_meet (second_fails more e f) = record {
    first = λ g q. absurd (true_not_false (was_busy b) f q);
    second = λ g q. subst (λ x. IsFront x out) (sym (busy_text_too f)) (front_there more e);
    both = inr (front_both_too more e f (was_busy a) refl);
    neither = λ g q. absurd (true_not_false (was_busy b) f q);
  }

pub nothing_leaks : (s t : State) (input out out2 : Bytes) (end fin : Ended) (new new2 : State)
    (a : Session s input out end new) (b : Session t input out2 fin new2)
    → SamePublic s t → AsksThePublic input → HasEnded end → HasEnded fin → AreAlike a b
nothing_leaks s t input out out2 end fin new new2 a b p asks h k =
    leak_meet s t input out out2 end fin new new2 a b (answers_alike s t p) asks h k (meeting s t input out out2 end fin new new2 a b h k)
