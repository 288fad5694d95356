-- Two courses of one input go together until one of them is busy.
use Rattle.std.proofs.Common.{◌≡◌, ◌<◌, ℕ, suc, ◌+◌, List, [], ◌∷◌, ◌++◌, length, refl, sym, ap, ◌∙◌, subst, arith}
use Rattle.std.proofs.Common.{true, false, Bool}
use Rattle.std.specs.Prelude.{◌||◌}
use Rattle.http_desk.specs.declared.session_end.Ended.TheVariants.{Bound}
use Rattle.http_desk.proofs.Common.{AllByRecursion, Answers, AreSameOutcomes, Begins, BodyCut, Bytes, Closed, Cut, Cuts}
use Rattle.http_desk.proofs.Common.{End, Ended, EndsSo, Fails, HasEnded, HeadCut, IsClosing, IsCutOff, Last, Message}
use Rattle.http_desk.proofs.Common.{NoHead, Nothing, ReadFault, Refuses, Session, Stands, State, StaysOpen, WriteFault}
use Rattle.http_desk.proofs.Common.{Written, is_busy, last_text, most_answers, nat_eq, nat_tests, state_after_last}
use Rattle.http_desk.proofs.Common.{state_after_messages, text_after_all, was_busy}
use Rattle.http_desk.proofs.Cutting.{begins_unique, stands_unique}

pub data Meet (ms : List Message) (l : Last) (ns : List Message) (k : Last) : Type 0 where
  same : ms ≡ ns → l ≡ k → Meet ms l ns k
  first_fails : (more : List Message) → ns ≡ ms ++ more → is_busy l ≡ true → Meet ms l ns k
  second_fails : (more : List Message) → ms ≡ ns ++ more → is_busy k ≡ true → Meet ms l ns k

not_ten_thousand : (n : ℕ) → suc n < most_answers → nat_eq (suc n) most_answers ≡ false
not_ten_thousand n h = grind (arith, nat_tests)

answers_not_nothing : (m : Message) → Answers m ≡ Nothing → ⊥
answers_not_nothing m e = cc

stays : (a b : Bool) → a ≡ false → b ≡ false → (a || b) ≡ true → ⊥
stays true b e f g = cc
stays false b e f g = cc

-- a message that leaves the connection open is no end
goes_on : (number : ℕ) (n : Message) (end : Ended) → StaysOpen n → suc number < most_answers
    → EndsSo (suc number) (Answers n) end → HasEnded end → ⊥
goes_on number n End open_ few e h = answers_not_nothing n e
goes_on number n Cut open_ few e h = e
goes_on number n Closed open_ few e h =
    stays n.request.closes (nat_eq (suc number) most_answers) open_ (not_ten_thousand number few) e
goes_on number n ReadFault open_ few e h = h
goes_on number n WriteFault open_ few e h = h
goes_on number n Bound open_ few e h = h

clash : (number : ℕ) (input rest : Bytes) (l : Last) (n : Message) (end : Ended) → Stands input l → Begins input n rest
    → is_busy l ≡ false
    → StaysOpen n → suc number < most_answers → EndsSo (suc number) l end → HasEnded end → ⊥
clash number input rest l n end x b quiet open_ few e h =
    let is : l ≡ Answers n = stands_unique input l (Answers n) x (rest, b) quiet refl in
    goes_on number n end open_ few (subst (λ k. EndsSo (suc number) k end) is e) h

both_end : (input : Bytes) (l k : Last) (a b : Bool) → is_busy l ≡ a → is_busy k ≡ b → Stands input l → Stands input k
    → Meet [] l [] k
both_end input l k true b e f x y = first_fails [] refl e
both_end input l k false true e f x y = second_fails [] refl f
both_end input l k false false e f x y = same refl (stands_unique input l k x y e f)

one_ends : (number : ℕ) (input rest : Bytes) (l : Last) (n : Message) (end : Ended) → Stands input l
    → Begins input n rest
    → StaysOpen n → suc number < most_answers → EndsSo (suc number) l end → HasEnded end → is_busy l ≡ true
one_ends number input rest l n end x b open_ few e h = by_cases (is_busy l) refl
  where
    by_cases : (c : Bool) → is_busy l ≡ c → is_busy l ≡ true
    by_cases true f = f
    by_cases false f = absurd (clash number input rest l n end x b f open_ few e h)

longer : (m n : Message) (ms ns : List Message) (l k : Last) → m ≡ n → Meet ms l ns k → Meet (m ∷ ms) l (n ∷ ns) k
longer m n ms ns l k e (same f g) = same (λ i. e i ∷ f i) g
longer m n ms ns l k e (first_fails more f g) = first_fails more (λ i. sym e i ∷ f i) g
longer m n ms ns l k e (second_fails more f g) = second_fails more (λ i. e i ∷ f i) g

pub meet : (number at at2 : ℕ) (input rest rest2 : Bytes) (ms ns : List Message) (l k : Last) (end fin : Ended)
    → Cuts input ms rest → Cuts input ns rest2 → AllByRecursion StaysOpen ms → AllByRecursion StaysOpen ns
    → at ≡ suc (number + length ms) → at2 ≡ suc (number + length ns) → at < suc most_answers → at2 < suc most_answers
    → Stands rest l → Stands rest2 k → EndsSo at l end → EndsSo at2 k fin → HasEnded end → HasEnded fin → Meet ms l ns k
meet number at at2 input rest rest2 [] [] l k end fin c d o p f g few few2 x y e e2 h h2 =
    both_end input l k (is_busy l) (is_busy k) refl refl (subst (λ i. Stands i l) (sym c) x) (subst (λ i. Stands i k) (sym d) y)
meet number at at2 input rest rest2 [] (n ∷ ns) l k end fin c d o p f g few few2 x y e e2 h h2 =
    let here : at ≡ suc number = omega arith in
    let below : suc number < most_answers = omega arith in
    first_fails (n ∷ ns) refl (one_ends number input d.0 l n end (subst (λ i. Stands i l) (sym c) x) d.1 p.0 below (subst (λ i. EndsSo i l end) here e) h)
meet number at at2 input rest rest2 (m ∷ ms) [] l k end fin c d o p f g few few2 x y e e2 h h2 =
    let here : at2 ≡ suc number = omega arith in
    let below : suc number < most_answers = omega arith in
    second_fails (m ∷ ms) refl (one_ends number input c.0 k m fin (subst (λ i. Stands i k) (sym d) y) c.1 o.0 below (subst (λ i. EndsSo i k fin) here e2) h2)
meet number at at2 input rest rest2 (m ∷ ms) (n ∷ ns) l k end fin c d o p f g few few2 x y e e2 h h2 =
    let one = begins_unique input m n c.0 d.0 c.1 d.1 in
    let next : at ≡ suc (suc number + length ms) = omega arith in
    let next2 : at2 ≡ suc (suc number + length ns) = omega arith in
    longer m n ms ns l k one.messages
    (meet (suc number) at at2 c.0 rest rest2 ms ns l k end fin c.2 (subst (λ i. Cuts i ns rest2) (sym one.rests) d.2) o.1 p.1 next next2 few few2 x y e e2 h h2)

-- ---- a session is determined

abbrev pub written_all : (end : Ended) (bytes out : Bytes) → HasEnded end → Written end bytes out → out ≡ bytes
written_all End bytes out h w = w
written_all Cut bytes out h w = w
written_all Closed bytes out h w = w
written_all ReadFault bytes out h w = w
written_all WriteFault bytes out h w = absurd h
written_all Bound bytes out h w = absurd h

not_stopped : (number : ℕ) (l : Last) → IsCutOff l → IsClosing number l → ⊥
not_stopped number Nothing s c = s
not_stopped number HeadCut s c = c
not_stopped number (BodyCut r) s c = c
not_stopped number NoHead s c = s
not_stopped number (Refuses t b) s c = s
not_stopped number (Answers m) s c = s
not_stopped number (Fails a b) s c = s

pub ends_unique : (number : ℕ) (l : Last) (e f : Ended) → EndsSo number l e → EndsSo number l f → HasEnded e
    → HasEnded f → e ≡ f
ends_unique number l End End x y h k = refl
ends_unique number l End Cut x y h k = absurd (subst IsCutOff x y)
ends_unique number l End Closed x y h k = absurd (subst (IsClosing number) x y)
ends_unique number l Cut End x y h k = absurd (subst IsCutOff y x)
ends_unique number l Cut Cut x y h k = refl
ends_unique number l Cut Closed x y h k = absurd (not_stopped number l x y)
ends_unique number l Closed End x y h k = absurd (subst (IsClosing number) y x)
ends_unique number l Closed Cut x y h k = absurd (not_stopped number l y x)
ends_unique number l Closed Closed x y h k = refl
ends_unique number l ReadFault f x y h k = absurd h
ends_unique number l WriteFault f x y h k = absurd h
ends_unique number l Bound f x y h k = absurd h
ends_unique number l End ReadFault x y h k = absurd k
ends_unique number l End WriteFault x y h k = absurd k
ends_unique number l End Bound x y h k = absurd k
ends_unique number l Cut ReadFault x y h k = absurd k
ends_unique number l Cut WriteFault x y h k = absurd k
ends_unique number l Cut Bound x y h k = absurd k
ends_unique number l Closed ReadFault x y h k = absurd k
ends_unique number l Closed WriteFault x y h k = absurd k
ends_unique number l Closed Bound x y h k = absurd k

-- two sessions of one input
pub meeting : (s t : State) (input out out2 : Bytes) (end fin : Ended) (new new2 : State)
    (a : Session s input out end new) (b : Session t input out2 fin new2) → HasEnded end → HasEnded fin
    → Meet a.messages a.stops.last b.messages b.stops.last
meeting s t input out out2 end fin new new2 a b h k =
    let few : suc (length a.messages) < suc most_answers = omega (arith, a.few) in
    let few2 : suc (length b.messages) < suc most_answers = omega (arith, b.few) in
    let at : suc (length a.messages) ≡ suc (0 + length a.messages) = omega arith in
    let at2 : suc (length b.messages) ≡ suc (0 + length b.messages) = omega arith in
    meet 0 (suc (length a.messages)) (suc (length b.messages)) input a.rest b.rest a.messages b.messages a.stops.last b.stops.last end fin a.cut b.cut a.stay b.stay at at2 few few2
    a.stops.stands b.stops.stands a.stops.ends b.stops.ends h k

-- all that is written
pub whole_text : (s : State) (input out : Bytes) (end : Ended) (new : State) (a : Session s input out end new)
    → HasEnded end
    → out ≡ text_after_all s a.messages ++ last_text (suc (length a.messages)) (state_after_messages s a.messages) a.stops.last
whole_text s input out end new a h =
    a.says ∙ ap (λ l. text_after_all s a.messages ++ l) (written_all end _ a.out h a.stops.written)

same_course : (s : State) (input out out2 : Bytes) (end fin : Ended) (new new2 : State)
    (a : Session s input out end new) (b : Session s input out2 fin new2) → HasEnded end → HasEnded fin
    → a.messages ≡ b.messages → a.stops.last ≡ b.stops.last → AreSameOutcomes out out2 end fin new new2
same_course s input out out2 end fin new new2 a b h k e f =
    let text : List Message → Last → Bytes =
    λ ms l. text_after_all s ms ++ last_text (suc (length ms)) (state_after_messages s ms) l in
    let after : List Message → Last → State = λ ms l. state_after_last (state_after_messages s ms) l in
    let texts : text a.messages a.stops.last ≡ text b.messages b.stops.last = λ i. text (e i) (f i) in
    let states : after a.messages a.stops.last ≡ after b.messages b.stops.last = λ i. after (e i) (f i) in
    let numbers : suc (length a.messages) ≡ suc (length b.messages) = ap (λ ms. suc (length ms)) e in
    let there : EndsSo (suc (length b.messages)) b.stops.last end =
    subst (λ l. EndsSo (suc (length b.messages)) l end) f (subst (λ n. EndsSo n a.stops.last end) numbers a.stops.ends) in
    record {
      output = whole_text s input out end new a h ∙ texts ∙ sym (whole_text s input out2 fin new2 b k);
      ended = ends_unique (suc (length b.messages)) b.stops.last end fin there b.stops.ends h k;
      state = a.stops.leaves ∙ states ∙ sym b.stops.leaves;
    }

pub true_not_false : (b : Bool) → b ≡ true → b ≡ false → ⊥
true_not_false b e f = cc

pub determined : (s : State) (input out out2 : Bytes) (end fin : Ended) (new new2 : State)
    (a : Session s input out end new) (b : Session s input out2 fin new2)
    → HasEnded end → HasEnded fin → was_busy a ≡ false → was_busy b ≡ false → AreSameOutcomes out out2 end fin new new2
determined s input out out2 end fin new new2 a b h k quiet quiet2 =
    elim (meeting s s input out out2 end fin new new2 a b h k) as (λ m. AreSameOutcomes out out2 end fin new new2) [
      | same e f ↦ same_course s input out out2 end fin new new2 a b h k e f
      | first_fails more e f ↦ absurd (true_not_false _ f quiet)
      | second_fails more e f ↦ absurd (true_not_false _ f quiet2)
    ]
