-- The bytes of an answer, in pieces.
use Rattle.std.proofs.Common.{◌≡◌, ◌++◌, length, append_assoc, Bool, sym, ◌∙◌, subst}
use Rattle.std.specs.Prelude.{codes}
use Rattle.http_messages.specs.Answers.{head_text}
use Rattle.http_desk.specs.Parts.{pieces_text}
use Rattle.http_desk.proofs.Common.{Answer, Bytes, allow_field, close_field, decimal, phrase_of, status_code, type_name}

regroup : (s p k n a c b : Bytes)
    → (codes "HTTP/1.1 " ++ (s ++ (codes " " ++ (p ++ (codes "\r\n" ++ (codes "Content-Type: " ++ (k ++ (codes "\r\n" ++ (codes "Content-Length: " ++ (n ++ (codes "\r\n" ++ (a ++ (c ++ codes "\r\n"))))))))))))) ++ b
    ≡ pieces_text s p k n a c b
regroup s p k n a c b = simp append_assoc

printed : (closing : Bool) (a : Answer) (body : Bytes)
    → pieces_text (decimal (status_code a.status)) (phrase_of a.status) (type_name a.is_text) (decimal (length a.body)) (allow_field a.allow) (close_field closing) body ≡ head_text closing a ++ body
unfolding head_text
printed closing a body =
    sym (regroup (decimal (status_code a.status)) (phrase_of a.status) (type_name a.is_text) (decimal (length a.body)) (allow_field a.allow) (close_field closing) body)

-- what holds of the pieces holds of the answer
pub of_pieces : (P : Bytes → Type 0) (closing : Bool) (a : Answer) (body s p k n al cl b : Bytes)
    → s ≡ decimal (status_code a.status) → p ≡ phrase_of a.status → k ≡ type_name a.is_text → n ≡ decimal (length a.body)
    → al ≡ allow_field a.allow → cl ≡ close_field closing → b ≡ body
    → P (pieces_text s p k n al cl b) → P (head_text closing a ++ body)
of_pieces P closing a body s p k n al cl b e1 e2 e3 e4 e5 e6 e7 h =
    subst P ((λ i. pieces_text (e1 i) (e2 i) (e3 i) (e4 i) (e5 i) (e6 i) (e7 i)) ∙ printed closing a body) h
