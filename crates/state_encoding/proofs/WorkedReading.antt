-- What the rows of a small office say, computed.
use Rattle.std.proofs.Common.{refl}
use Rattle.state_encoding.specs.WorkedReading.{ReadAgain}

pub read_again : ReadAgain
read_again =
    record {
      linked = record { settings = refl; next = refl; forest = refl; boxes = refl; readers = refl; seats = refl; runs = refl };
      nested = record { settings = refl; next = refl; forest = refl; boxes = refl; readers = refl; seats = refl; runs = refl };
      links = refl;
      spans = refl;
    }
