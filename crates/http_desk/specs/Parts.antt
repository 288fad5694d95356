-- An answer from its parts, as they are written.
use Rattle.std.specs.Prelude.{◌++◌, codes}
use Rattle.isad_core.specs.Texts.{Bytes}
use Rattle.http_desk.specs.declared.reply.Parts.{Parts}

abbrev pub pieces_text : Bytes → Bytes → Bytes → Bytes → Bytes → Bytes → Bytes → Bytes
pieces_text status phrase kind size allow close body =
    codes "HTTP/1.1 " ++ (status ++ (codes " " ++ (phrase
    ++ (codes "\r\nContent-Type: " ++ (kind ++ (codes "\r\nContent-Length: "
    ++ (size ++ (codes "\r\n" ++ (allow ++ (close ++ (codes "\r\n" ++ body)))))))))))

abbrev pub parts_text : Parts → Bytes
parts_text p = pieces_text p.status.now p.phrase.now p.kind.now p.size.now p.allow.now p.close.now p.body.now
