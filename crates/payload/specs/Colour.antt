-- No public promise goes through this file. A colour's channel: an id and a number.
use Rattle.form.specs.Reading.{Channel as Form-Channel}
use Rattle.payload.specs.declared.colour.Channel.{Channel}

abbrev pub channel_of : Channel → Form-Channel
channel_of x = record { tag = x.id.0; value = x.value }
