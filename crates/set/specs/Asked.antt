-- What a request of the code is to the rules. Assumes nothing: this is a definition.
use Rattle.rules.specs.Set.{request_of}
use Rattle.rules.specs.Set as rules
use Rattle.set.specs.declared.request.Request.{Request}

abbrev pub asked : Request → rules.Request
asked r = request_of r.namespace.now r.name.now r.attributes r.payload.now
